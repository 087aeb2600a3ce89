-- The 16 client regions: lists of bytes that arrays are read from (this project's profile).
use Rattle.std.specs.Prelude.{ℕ, nat_lt, Bool, List, [], Option, Ok, replicate, slice_index_or, slice_set}
use Rattle.gl_tokens.specs.declared.gl_error.GlError.{GlError}
use Rattle.gl_tokens.specs.declared.gl_error.GlError.TheVariants.{InvalidValue}
use Rattle.gl_tokens.specs.Commands.{done, unless}

-- no region holds a byte
abbrev pub opening_regions : List (List ℕ)
opening_regions = replicate 16 []

-- no client region has this number: theirs are 0 to 15
abbrev pub is_past_regions : ℕ → Bool
is_past_regions region = nat_lt 15 region

-- ClientBytes: the region holds these bytes from now on, and no others
abbrev pub with_region : List (List ℕ) → ℕ → List ℕ → List (List ℕ) × Option GlError
with_region regions region piece =
    done regions (unless (is_past_regions region) InvalidValue (Ok (slice_set regions region piece)))

-- the bytes that a region holds
abbrev pub bytes_of : List (List ℕ) → ℕ → List ℕ
bytes_of regions region = slice_index_or regions region []
