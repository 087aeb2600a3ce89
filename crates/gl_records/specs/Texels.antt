-- Texels of an image that are lent to be written.
use Rattle.std.specs.Prelude.{ℕ, ◌++◌, List, length, take, drop}

-- as many texels as before, the first of them these
abbrev pub with_texels : List ℕ → List ℕ → List ℕ
with_texels texels written = take (length texels) (written ++ drop (length written) texels)
