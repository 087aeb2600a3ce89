-- What commands of images ask for, where nothing that was looked at is wrong.
use Rattle.std.proofs.Common.{◌≡◌, ◌*◌, ◌==◌, ◌||◌, ℕ, Bool, true, false, ℤ, int_lt, pos, nat_abs, Some, Result, Ok, length, inl, inr}
use Rattle.std.proofs.lemmas.Bool.Decides.{eqb_tells}
use Rattle.gl_tokens.specs.BaseFormat as base_format
use Rattle.gl_tokens.specs.PaletteFormat as palette_format
use Rattle.gl_tokens.specs.TexelType as texel_type
use Rattle.gl_tokens.specs.TextureTarget as texture_target
use Rattle.gl_tokens.specs.declared.base_format.BaseFormat.{BaseFormat}
use Rattle.gl_tokens.specs.declared.gl_error.GlError.{GlError}
use Rattle.gl_tokens.specs.declared.palette_format.PaletteFormat.{PaletteFormat}
use Rattle.gl_tokens.specs.declared.texel_type.TexelType.{TexelType}
use Rattle.gl_tokens.specs.declared.texture_target.TextureTarget.{TextureTarget}
use Rattle.gl_records.specs.Complete.{is_empty_level, level_at}
use Rattle.gl_records.specs.declared.level.ImageSet.{ImageSet}
use Rattle.gl_records.specs.declared.level.Level.{Level as TexelLevel}
use Rattle.image_levels.specs.Texels.{IsFilled}
use Rattle.image_commands.specs.Asked.{area_asked, area_of, level_asked, level_number, level_of, palette_asked, palette_of, palette_side}
use Rattle.image_commands.specs.declared.image_write.ImageWrite.{ImageWrite}

-- two words that are one
eqb-same : (a b : ℕ) → a ≡ b → (a == b) ≡ true
eqb-same a b same = elim (eqb_tells a b) [
  | inl is ↦ is.0
  | inr isnt ↦ absurd (isnt.1 same)
]

or-true : (b : Bool) → (b || true) ≡ false → ⊥
or-true true e = cc
or-true false e = cc

-- a level that isn't empty has as many texels as its sides say
pub filled-is : (level : TexelLevel) → is_empty_level level ≡ false → IsFilled level
filled-is level some = elim (eqb_tells (length level.texels) (level.w * level.h)) [
  | inl is ↦ is.1
  | inr isnt ↦ absurd (or-true (level.w == 0 || level.h == 0) (rw isnt.0 at some))
]

pub level_asked-is : (target : ℕ) (level : ℤ) (internal : ℕ) (w h border : ℤ) (format_code type_code k : ℕ) (t : TextureTarget) (components format : BaseFormat) (kind : TexelType) (result : Result ImageWrite GlError)
    → texture_target.from_code_of target ≡ Some t → level_number level ≡ Ok k → base_format.from_code_of internal ≡ Some components
    → base_format.from_code_of format_code ≡ Some format → texel_type.from_code_of type_code ≡ Some kind → internal ≡ format_code
    → result ≡ level_of k format kind w h border → result ≡ level_asked target level internal w h border format_code type_code
unfolding level_asked
level_asked-is target level internal w h border format_code type_code k t components format kind result is_target is_level is_internal is_format is_type same value =
    let equal = eqb-same internal format_code same in
    rw (is_target, is_level, is_internal, is_format, is_type, equal) value

pub area_asked-is : (image : ImageSet) (target : ℕ) (level x y w h : ℤ) (format_code type_code k : ℕ) (t : TextureTarget) (format : BaseFormat) (kind : TexelType) (result : Result ImageWrite GlError)
    → texture_target.from_code_of target ≡ Some t → level_number level ≡ Ok k
    → base_format.from_code_of format_code ≡ Some format → texel_type.from_code_of type_code ≡ Some kind
    → result ≡ area_of (level_at image k) k x y w h format kind → result ≡ area_asked image target level x y w h format_code type_code
unfolding area_asked
area_asked-is image target level x y w h format_code type_code k t format kind result is_target is_level is_format is_type value =
    rw (is_target, is_level, is_format, is_type) value

pub palette_asked-is : (target : ℕ) (level : ℤ) (internal : ℕ) (w h border size : ℤ) (across up : ℕ) (t : TextureTarget) (format : PaletteFormat) (result : Result ImageWrite GlError)
    → texture_target.from_code_of target ≡ Some t → palette_format.from_code_of internal ≡ Some format → int_lt (pos 0) level ≡ false
    → palette_side w ≡ Ok across → palette_side h ≡ Ok up
    → result ≡ palette_of format across up (nat_abs level) border size → result ≡ palette_asked target level internal w h border size
unfolding palette_asked
palette_asked-is target level internal w h border size across up t format result is_target is_format below is_w is_h value =
    rw (is_target, is_format, below, is_w, is_h) value
