-- The commands of images: the image of the texture that is bound, with the limit on the bytes of all images (OpenGL ES
-- 1.1.12, 3.7.1 to 3.7.3 and 3.7.7; the limit is this project's).
use Rattle.std.specs.Prelude.{ℕ, nat_lt, Bool, Option, Ok}
use Rattle.gl_records.specs.declared.level.ImageSet.{ImageSet}
use Rattle.gl_records.specs.declared.rec.Rec.{Rec}
use Rattle.gl_tokens.specs.Commands.{done, unless, ◌>>=◌}
use Rattle.gl_tokens.specs.declared.gl_error.GlError.{GlError}
use Rattle.gl_tokens.specs.declared.gl_error.GlError.TheVariants.{OutOfMemory}
use Rattle.image_commands.specs.Asked.{asked_of, piece_of}
use Rattle.image_commands.specs.Written as image
use Rattle.image_commands.specs.declared.image_write.ImageWrite.{ImageWrite}
use Rattle.texture_store.specs.Textures.{Texture, TextureObjects, most_bytes, texture_at, texture_or_opening, with_texture, bound_name, bound_texture, live_bytes}

-- too many bytes would be live after this
abbrev pub is_past_bytes : TextureObjects → Bool
is_past_bytes textures = nat_lt most_bytes (live_bytes textures)

-- the texture once its image is written, by the alignment of rows that is set
abbrev pub with_write : Texture → ImageWrite → ℕ → Rec → Texture
with_write texture write align rec = record texture { image = image.written texture.image write texture.parameters.remakes align (piece_of rec) }

-- the texture of a name with another image
abbrev pub with_image : TextureObjects → ℕ → ImageSet → TextureObjects
with_image textures name image = with_texture textures name (record (texture_or_opening (texture_at textures name)) { image = image })

-- TexImage2D, TexSubImage2D and CompressedTexImage2D, while this unit is active
abbrev pub written : TextureObjects → ℕ → ℕ → Rec → TextureObjects × Option GlError
written textures unit align rec = done textures do
  write ← asked_of (bound_texture textures unit).image rec
  let after = with_texture textures (bound_name textures unit) (with_write (bound_texture textures unit) write align rec)
  unless (is_past_bytes after) OutOfMemory (Ok after)
