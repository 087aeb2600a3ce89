-- The command lines that are accepted: `play` alone.
use Rattle.std.specs.Prelude.{◌≡◌, String, List, [], ◌∷◌, map, codes}
use Rattle.std.specs.Global.{Global}
use Rattle.std.specs.String.{string_bytes}

abbrev pub IsPlay : List (String Global) → Type 0
IsPlay words = map string_bytes words ≡ codes "play" ∷ []
