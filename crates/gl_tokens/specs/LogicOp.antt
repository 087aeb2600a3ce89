-- Logical operations on colours (OpenGL ES 1.1.12, 4.1).
use Rattle.std.specs.Prelude.{ℕ, List, [], ◌∷◌, Option}
use Rattle.gl_tokens.specs.declared.logic_op.LogicOp.{LogicOp}
use Rattle.gl_tokens.specs.declared.logic_op.LogicOp.TheVariants.{Clear, And, AndReverse, Copy, AndInverted, NoOp, Xor, Or, Nor, Equivalent, Invert, OrReverse, CopyInverted, OrInverted, Nand, Set}
use Rattle.gl_tokens.specs.Coded.{coded}

abbrev pub code_of : LogicOp → ℕ
code_of Clear = 0x1500
code_of And = 0x1501
code_of AndReverse = 0x1502
code_of Copy = 0x1503
code_of AndInverted = 0x1504
code_of NoOp = 0x1505
code_of Xor = 0x1506
code_of Or = 0x1507
code_of Nor = 0x1508
code_of Equivalent = 0x1509
code_of Invert = 0x150A
code_of OrReverse = 0x150B
code_of CopyInverted = 0x150C
code_of OrInverted = 0x150D
code_of Nand = 0x150E
code_of Set = 0x150F

abbrev pub family : List LogicOp
family = Clear ∷ And ∷ AndReverse ∷ Copy ∷ AndInverted ∷ NoOp ∷ Xor ∷ Or ∷ Nor ∷ Equivalent ∷ Invert ∷ OrReverse ∷ CopyInverted ∷ OrInverted ∷ Nand ∷ Set ∷ []

abbrev pub from_code_of : ℕ → Option LogicOp
from_code_of = coded code_of family
