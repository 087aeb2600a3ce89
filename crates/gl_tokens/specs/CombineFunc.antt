-- Functions of a combining texture environment (OpenGL ES 1.1.12, 3.7).
use Rattle.std.specs.Prelude.{ℕ, List, [], ◌∷◌, Option}
use Rattle.gl_tokens.specs.declared.combine_func.CombineFunc.{CombineFunc}
use Rattle.gl_tokens.specs.declared.combine_func.CombineFunc.TheVariants.{Add, Replace, Modulate, Subtract, AddSigned, Interpolate, Dot3Rgb, Dot3Rgba}
use Rattle.gl_tokens.specs.Coded.{coded}

abbrev pub code_of : CombineFunc → ℕ
code_of Add = 0x0104
code_of Replace = 0x1E01
code_of Modulate = 0x2100
code_of Subtract = 0x84E7
code_of AddSigned = 0x8574
code_of Interpolate = 0x8575
code_of Dot3Rgb = 0x86AE
code_of Dot3Rgba = 0x86AF

abbrev pub family : List CombineFunc
family = Add ∷ Replace ∷ Modulate ∷ Subtract ∷ AddSigned ∷ Interpolate ∷ Dot3Rgb ∷ Dot3Rgba ∷ []

abbrev pub from_code_of : ℕ → Option CombineFunc
from_code_of = coded code_of family
