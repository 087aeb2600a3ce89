-- The texels of an image, each by its place in the piece (OpenGL ES 1.1.12, 3.6.1 and 3.6.2).
use Rattle.std.specs.Prelude.{ℕ, ◌+◌, ◌-◌, ◌*◌, ◌/◌, ◌==◌, ◌||◌, Bool, List, map}
use Rattle.std.specs.List.{flat_map, range_with_len}
use Rattle.gl_tokens.specs.declared.base_format.BaseFormat.{BaseFormat}
use Rattle.gl_tokens.specs.declared.texel_type.TexelType.{TexelType}
use Rattle.pixel_unpack.specs.Texel.{texel_bytes, texel_at}

-- the alignments of rows, in bytes
abbrev pub is_alignment : ℕ → Bool
is_alignment align = align == 1 || align == 2 || align == 4 || align == 8

-- the least multiple of the alignment that is at least so many bytes
abbrev pub aligned : ℕ → ℕ → ℕ
aligned align bytes = (bytes + (align - 1)) / align * align

-- the byte at which row y begins
abbrev pub row_start : BaseFormat → TexelType → ℕ → ℕ → ℕ → ℕ
row_start format kind align w y = y * aligned align (w * texel_bytes format kind)

-- w texels one behind the other, the first at this byte
abbrev pub texel_row : BaseFormat → TexelType → ℕ → List ℕ → ℕ → List ℕ
texel_row format kind w piece start =
    map (λ x. texel_at format kind piece (start + x * texel_bytes format kind)) (range_with_len 0 w)

-- the image: its rows from the bottom, each with its texels from the left
unfoldable pub image : BaseFormat → TexelType → ℕ → ℕ → ℕ → List ℕ → List ℕ
image format kind align w h piece =
    flat_map (λ y. texel_row format kind w piece (row_start format kind align w y)) (range_with_len 0 h)
