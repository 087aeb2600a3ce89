use Rattle.image_commands.proofs.errors.asked.Goals as goal

pub returns-in-TexImage2D-clause-possible : goal.returns-in-TexImage2D-clause-possible
returns-in-TexImage2D-clause-possible c = c.level_asked.ensures.possible c.args.image.now

pub returns-in-CompressedTexImage2D-clause-possible : goal.returns-in-CompressedTexImage2D-clause-possible
returns-in-CompressedTexImage2D-clause-possible c = c.palette_asked.ensures.possible c.args.image.now
