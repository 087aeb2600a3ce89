-- Colours R G B A, of components of 0 to 255.
use Rattle.std.specs.Prelude.{ℕ, List, [], ◌∷◌, slice_index}

-- the colour with these components, by their places
abbrev pub color_of : (ℕ → ℕ) → List ℕ
color_of component = component 0 ∷ component 1 ∷ component 2 ∷ component 3 ∷ []

-- the place of alpha
abbrev pub alpha_place : ℕ
alpha_place = 3

abbrev pub alpha : List ℕ → ℕ
alpha color = slice_index color alpha_place
