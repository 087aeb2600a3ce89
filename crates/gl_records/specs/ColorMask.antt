-- The components of colours that are written (OpenGL ES 1.1.12, 4.2.2).
use Rattle.std.specs.Prelude.{ℕ, Bool, false, List, if◌then◌else◌, slice_index, slice_index_or}
use Rattle.gl_records.specs.Color.{color_of}

-- component k of the new colour where the colour mask lets it through, else the one that was there
abbrev pub masked_component : List ℕ → List Bool → List ℕ → ℕ → ℕ
masked_component color mask under k = if slice_index_or mask k false then slice_index color k else slice_index under k

abbrev pub masked_color : List ℕ → List Bool → List ℕ → List ℕ
masked_color color mask under = color_of (masked_component color mask under)
