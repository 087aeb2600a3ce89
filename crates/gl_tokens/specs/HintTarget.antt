-- What hints are about (OpenGL ES 1.1.12, 5.6).
use Rattle.std.specs.Prelude.{ℕ, List, [], ◌∷◌, Option}
use Rattle.gl_tokens.specs.declared.hint_target.HintTarget.{HintTarget}
use Rattle.gl_tokens.specs.declared.hint_target.HintTarget.TheVariants.{PerspectiveCorrection, PointSmooth, LineSmooth, Fog, GenerateMipmap}
use Rattle.gl_tokens.specs.Coded.{coded}

abbrev pub code_of : HintTarget → ℕ
code_of PerspectiveCorrection = 0x0C50
code_of PointSmooth = 0x0C51
code_of LineSmooth = 0x0C52
code_of Fog = 0x0C54
code_of GenerateMipmap = 0x8192

abbrev pub family : List HintTarget
family = PerspectiveCorrection ∷ PointSmooth ∷ LineSmooth ∷ Fog ∷ GenerateMipmap ∷ []

abbrev pub from_code_of : ℕ → Option HintTarget
from_code_of = coded code_of family
