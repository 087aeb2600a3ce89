-- What one level of an image gives at coordinates S and T, as GLfixed (OpenGL ES 1.1.12, 3.7, "Texture Wrap Modes"
-- and "Texture Minification").
use Rattle.std.specs.Prelude.{ℕ, ℤ, pos, ◌+◌, ◌-◌, ◌*◌, ◌/◌, ◌+ℤ◌, ◌-ℤ◌, ◌*ℤ◌, Bool, List, slice_index, unsigned_abs, if◌then◌else◌}
use Rattle.std.specs.Int.{w32, int_rem_euclid, to_le_bytes}
use Rattle.fx_arith.specs.Number.{clamp, floor_div}
use Rattle.gl_tokens.specs.declared.wrap.Wrap.{Wrap}
use Rattle.gl_tokens.specs.declared.wrap.Wrap.TheVariants.{Repeat, ClampToEdge}
use Rattle.gl_records.specs.declared.level.Level.{Level}
use Rattle.gl_records.specs.declared.sampler.Sampler.{Sampler}
use Rattle.gl_records.specs.Color.{color_of}

-- the texel along a side that a place stands for: the image repeats, or its last texels do
abbrev pub wrapped : Wrap → ℕ → ℤ → ℕ
wrapped Repeat side place = unsigned_abs (int_rem_euclid place (pos side))
wrapped ClampToEdge side place = unsigned_abs (clamp (pos 0) (pos (side - 1)) place)

-- the texel in a column and a row of the level, R G B A
abbrev pub texel_at : Level → ℕ → ℕ → List ℕ
texel_at level column row = to_le_bytes w32 (slice_index level.texels (row * level.w + column))

-- the texel at a place, which may lie outside of the level
abbrev pub texel_about : Sampler → Level → ℤ → ℤ → List ℕ
texel_about sampler level i j = texel_at level (wrapped sampler.wrap_s level.w i) (wrapped sampler.wrap_t level.h j)

-- NEAREST: the place along a side of so many texels in which a coordinate lies
abbrev pub nearest_place : ℤ → ℕ → ℤ
nearest_place coordinate side = floor_div (coordinate *ℤ pos side) 65536

abbrev pub nearest_texel : Sampler → Level → ℤ → ℤ → List ℕ
nearest_texel sampler level s t = texel_about sampler level (nearest_place s level.w) (nearest_place t level.h)

-- LINEAR: a coordinate along a side of so many texels, in 1/256 texel, from the centre of the first
abbrev pub linear_place : ℤ → ℕ → ℤ
linear_place coordinate side = floor_div (pos 256 *ℤ coordinate *ℤ pos side) 65536 -ℤ pos 128

-- the place of the lower of two texels about it, and how much the higher counts, in 1/256
abbrev pub lower : ℤ → ℤ
lower place = floor_div place 256

abbrev pub fraction : ℤ → ℕ
fraction place = unsigned_abs (int_rem_euclid place (pos 256))

-- component k of four texels: the higher columns count a, the higher rows b, in 1/256; rounded to the nearest
abbrev pub weighted : ℕ → ℕ → (low_low high_low low_high high_high : List ℕ) → ℕ → ℕ
weighted a b low_low high_low low_high high_high k =
    ((256 - a) * (256 - b) * slice_index low_low k
    + a * (256 - b) * slice_index high_low k
    + (256 - a) * b * slice_index low_high k
    + a * b * slice_index high_high k
    + 32768) / 65536

-- the texels about a place of the level, in 1/256 texel along both sides
abbrev pub linear_about : Sampler → Level → ℤ → ℤ → List ℕ
linear_about sampler level u v =
    let i = lower u in
    let j = lower v in
    color_of (weighted (fraction u) (fraction v)
    (texel_about sampler level i j)
    (texel_about sampler level (i +ℤ pos 1) j)
    (texel_about sampler level i (j +ℤ pos 1))
    (texel_about sampler level (i +ℤ pos 1) (j +ℤ pos 1)))

abbrev pub linear_texel : Sampler → Level → ℤ → ℤ → List ℕ
linear_texel sampler level s t = linear_about sampler level (linear_place s level.w) (linear_place t level.h)

-- the level's colour, by the filter inside of it
unfoldable pub level_texel : Bool → Sampler → Level → ℤ → ℤ → List ℕ
level_texel linear sampler level s t = if linear then linear_texel sampler level s t else nearest_texel sampler level s t
