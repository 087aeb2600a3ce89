-- A command on the matrix stacks that makes no error.
use Rattle.std.proofs.Common.{◌≡◌, ◌∙◌, Option, None, ap}
use Rattle.gl_records.specs.declared.rec.Rec.{Rec}
use Rattle.gl_tokens.specs.declared.gl_error.GlError.{GlError}
use Rattle.matrix_stacks.specs.Stacks.{Matrices}
use Rattle.gl_state.specs.declared.state.State.{State}
use Rattle.gl_state.specs.State.{ran}

-- the state with these stacks
abbrev pub with_stacks : State → Matrices → State × Option GlError
with_stacks s stacks = (record s { stacks = stacks }, None)

pub stacked : (s : State) (rec given : Rec) (stacks made : Matrices) → stacks ≡ made → rec ≡ given → with_stacks s made ≡ ran s given → with_stacks s stacks ≡ ran s rec
stacked s rec given stacks made is same run = rw same (ap (with_stacks s) is ∙ run)
