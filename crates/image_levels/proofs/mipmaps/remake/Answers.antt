use Rattle.std.proofs.Common.{List, Option, ap, refl, ◌∙◌}
use Rattle.std.specs.List.{sum_by}
use Rattle.gl_records.specs.Complete.{level_at}
use Rattle.gl_records.specs.ImageBytes.{image_bytes, level_bytes}
use Rattle.gl_records.specs.declared.level.ImageSet.{ImageSet}
use Rattle.gl_records.specs.declared.level.Level.{Level}
use Rattle.image_levels.specs.Mipmaps.{remade}
use Rattle.image_levels.proofs.Making.{remade-bytes}
use Rattle.image_levels.proofs.mipmaps.remake.Goals as goal

pub returns-clause-value : goal.returns-clause-value
unfolding remade
returns-clause-value c =
    let with_levels : List (Option Level) → ImageSet = λ levels. record { levels = levels } in
    ap with_levels c.remake_levels.ensures

pub returns-clause-bytes : goal.returns-clause-bytes
unfolding image_bytes
returns-clause-bytes c =
    ap (λ (levels : List (Option Level)). sum_by level_bytes levels) c.remake_levels.ensures
    ∙ remade-bytes (level_at c.args.set.now 0) c.args.set.now c.args.blanks.items refl c.requires
