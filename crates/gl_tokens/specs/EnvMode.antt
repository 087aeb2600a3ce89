-- Modes of a texture environment (OpenGL ES 1.1.12, 3.7).
use Rattle.std.specs.Prelude.{ℕ, List, [], ◌∷◌, Option}
use Rattle.gl_tokens.specs.declared.env_mode.EnvMode.{EnvMode}
use Rattle.gl_tokens.specs.declared.env_mode.EnvMode.TheVariants.{Add, Blend, Replace, Modulate, Decal, Combine}
use Rattle.gl_tokens.specs.Coded.{coded}

abbrev pub code_of : EnvMode → ℕ
code_of Add = 0x0104
code_of Blend = 0x0BE2
code_of Replace = 0x1E01
code_of Modulate = 0x2100
code_of Decal = 0x2101
code_of Combine = 0x8570

abbrev pub family : List EnvMode
family = Add ∷ Blend ∷ Replace ∷ Modulate ∷ Decal ∷ Combine ∷ []

abbrev pub from_code_of : ℕ → Option EnvMode
from_code_of = coded code_of family
