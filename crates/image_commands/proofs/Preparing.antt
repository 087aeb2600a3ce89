-- What is prepared for a write makes of the image what the command does.
use Rattle.std.proofs.Common.{◌≡◌, ◌<◌, ◌*◌, ◌==◌, ◌&&◌, ℕ, Bool, true, false, if◌then◌else◌, List, length, vec_len, get_or, slice_set, Option, None, Some, IfSome, inl, inr, refl, sym, ap, subst, ◌∙◌, arith}
use Rattle.std.specs.Global.{Vec}
use Rattle.std.proofs.lemmas.Bool.Decides.{eqb_tells}
use Rattle.std.proofs.lemmas.List.{get_or-set_same}
use Rattle.gl_tokens.specs.declared.base_format.BaseFormat.{BaseFormat}
use Rattle.gl_tokens.specs.declared.palette_format.PaletteFormat.{PaletteFormat}
use Rattle.gl_tokens.specs.declared.texel_type.TexelType.{TexelType}
use Rattle.gl_records.specs.Complete.{level_at}
use Rattle.gl_records.specs.declared.level.ImageSet.{ImageSet}
use Rattle.gl_records.specs.declared.level.Level.{Level as TexelLevel}
use Rattle.pixel_unpack.specs.Image.{image as unpacked}
use Rattle.pixel_unpack.specs.Palette.{palette_levels}
use Rattle.image_levels.specs.Levels.{with_levels}
use Rattle.image_levels.specs.Mipmaps.{AreFor, remade}
use Rattle.image_levels.specs.SubImage.{sub_image_of, with_sub_image_in}
use Rattle.image_levels.specs.declared.texel_box.TexelBox.{TexelBox}
use Rattle.image_commands.specs.Written.{IsArea, IsGood, IsLevel, IsPalette, IsPossible, given, makes_levels, new_level, with_level_or_none, written}
use Rattle.image_commands.specs.Prepared.{AreTaken, Fits, IsPrepared, put_of, with_made, with_part}
use Rattle.image_commands.specs.declared.image_write.ImageWrite.{ImageWrite}
use Rattle.image_commands.specs.declared.image_write.ImageWrite.TheVariants.{Level, Area, Palette}
use Rattle.image_commands.specs.declared.prepared.Part.{Part}
use Rattle.image_commands.specs.declared.prepared.Part.TheVariants.{Whole, Texels, Levels}
use Rattle.image_commands.proofs.Good.{IsFull, sub_image-full, written-good}

-- without level 0 no level is made
pub remade-none : (image : ImageSet) → level_at image 0 ≡ None → remade image ≡ image
unfolding remade
remade-none image none = rw none refl

made-value : (after : ImageSet) (makes : Bool) (blanks : Option (Vec TexelLevel)) → AreTaken makes (level_at after 0) blanks
    → with_made after blanks ≡ (if makes then remade after else after)
made-value after false blanks taken = rw taken refl
made-value after true None taken = sym (remade-none after taken)
made-value after true (Some blanks) taken = refl

made-ready : (after : ImageSet) (makes : Bool) (blanks : Option (Vec TexelLevel)) → AreTaken makes (level_at after 0) blanks
    → IfSome blanks (λ blanks. AreFor (level_at after 0) blanks.items)
made-ready after false blanks taken = rw taken tt
made-ready after true None taken = tt
made-ready after true (Some blanks) taken = taken

-- a part that gives what the command gives, with places for the levels that are made
pub prepared-is : (image : ImageSet) (write : ImageWrite) (remakes : Bool) (align : ℕ) (piece : List ℕ) (part : Part) (blanks : Option (Vec TexelLevel))
    → IsGood image → IsPossible image write → Fits image part → with_part image part ≡ given image write align piece
    → AreTaken (remakes && makes_levels write) (level_at (given image write align piece) 0) blanks
    → IsPrepared image write remakes align piece (record { part = part; blanks = blanks })
unfolding put_of written
prepared-is image write remakes align piece part blanks good possible fits same taken =
    let makes = remakes && makes_levels write in
    let after = given image write align piece in
    let value : with_made (with_part image part) blanks ≡ (if makes then remade after else after) =
    ap (λ (set : ImageSet). with_made set blanks) same ∙ made-value after makes blanks taken in
    let ready : IfSome blanks (λ blanks. AreFor (level_at (with_part image part) 0) blanks.items) =
    subst (λ (set : ImageSet). IfSome blanks (λ blanks. AreFor (level_at set 0) blanks.items)) (sym same) (made-ready after makes blanks taken) in
    record {
      ready = record { fits = fits; blanks = ready };
      value = value;
      good = subst IsGood (sym value) (written-good image write remakes align piece good possible);
    }

-- levels are made where this is level 0
pub makes-first : (remakes : Bool) (k : ℕ) → (remakes && (k == 0)) ≡ true → k ≡ 0
makes-first true k makes = elim (eqb_tells k 0) [
  | inl is ↦ is.1
  | inr isnt ↦ absurd (let e : false ≡ true = sym isnt.0 ∙ makes in cc)
]
makes-first false k makes = absurd (cc)

taken-along : (makes : Bool) (first next : Option TexelLevel) (blanks : Option (Vec TexelLevel))
    → (makes ≡ true → AreTaken true first blanks → AreTaken true next blanks) → AreTaken makes first blanks → AreTaken makes next blanks
taken-along false first next blanks same taken = taken
taken-along true first next blanks same taken = same refl taken

-- level 0 of an image where it is given
pub at-first : (image : ImageSet) (k : ℕ) (new : Option TexelLevel) → IsGood image → k ≡ 0 → level_at (with_level_or_none image k new) 0 ≡ new
at-first image k new good first =
    let inside : 0 < length image.levels = omega (arith, good.count) in
    ap (λ (i : ℕ). get_or (slice_set image.levels i new) 0 None) first ∙ get_or-set_same image.levels 0 new None inside

pub prepared-level : (image : ImageSet) (k : ℕ) (format : BaseFormat) (kind : TexelType) (w h : ℕ) (remakes : Bool) (align : ℕ) (piece : List ℕ) (level : Option TexelLevel) (blanks : Option (Vec TexelLevel))
    → IsGood image → IsLevel k format kind w h → level ≡ new_level format kind w h align piece → AreTaken (remakes && (k == 0)) level blanks
    → IsPrepared image (Level k format kind w h) remakes align piece (record { part = Whole k level; blanks = blanks })
unfolding given with_part
prepared-level image k format kind w h remakes align piece level blanks good possible is taken =
    let new = new_level format kind w h align piece in
    prepared-is image (Level k format kind w h) remakes align piece (Whole k level) blanks good possible possible.number
    (ap (λ (found : Option TexelLevel). with_level_or_none image k found) is)
    (taken-along (remakes && (k == 0)) level (level_at (with_level_or_none image k new) 0) blanks
    (λ makes. subst (λ (found : Option TexelLevel). AreTaken true found blanks) (is ∙ sym (at-first image k new good (makes-first remakes k makes)))) taken)

-- the same places do where texels of level 0 are replaced
taken-area : (found : Option TexelLevel) (area : TexelBox) (texels : List ℕ) (blanks : Option (Vec TexelLevel)) → IsFull found
    → AreTaken true found blanks → AreTaken true (sub_image_of found area texels) blanks
taken-area None area texels None full taken = refl
taken-area None area texels (Some blanks) full taken = absurd taken
taken-area (Some first) area texels None full taken = absurd (cc)
taken-area (Some first) area texels (Some blanks) full taken = (sub_image-full (Some first) area texels full, taken.1)

pub prepared-area : (image : ImageSet) (k : ℕ) (area : TexelBox) (format : BaseFormat) (kind : TexelType) (remakes : Bool) (align : ℕ) (piece texels : List ℕ) (blanks : Option (Vec TexelLevel))
    → IsGood image → IsArea image k area format kind → texels ≡ unpacked format kind align area.w area.h piece → length texels ≡ area.w * area.h
    → AreTaken (remakes && (k == 0)) (level_at image 0) blanks
    → IsPrepared image (Area k area format kind) remakes align piece (record { part = Texels k area texels; blanks = blanks })
unfolding given with_part
prepared-area image k area format kind remakes align piece texels blanks good possible is count taken =
    let new = unpacked format kind align area.w area.h piece in
    prepared-is image (Area k area format kind) remakes align piece (Texels k area texels) blanks good possible (possible.number, possible.holds, count)
    (ap (λ (all : List ℕ). with_sub_image_in image k area all) is)
    (taken-along (remakes && (k == 0)) (level_at image 0) (level_at (with_sub_image_in image k area new) 0) blanks
    (λ makes begun.
    let first = makes-first remakes k makes in
    let at : level_at (with_sub_image_in image k area new) 0 ≡ sub_image_of (level_at image 0) area new =
    at-first image k (sub_image_of (level_at image k) area new) good first ∙ ap (λ (i : ℕ). sub_image_of (level_at image i) area new) first in
    subst (λ (found : Option TexelLevel). AreTaken true found blanks) (sym at) (taken-area (level_at image 0) area new blanks (good.each 0) begun)) taken)

none-taken : (remakes : Bool) (first : Option TexelLevel) → AreTaken (remakes && false) first None
none-taken true first = refl
none-taken false first = refl

pub prepared-palette : (image : ImageSet) (format : PaletteFormat) (w h levels : ℕ) (remakes : Bool) (align : ℕ) (piece : List ℕ) (all : Vec TexelLevel)
    → IsGood image → IsPalette w h levels → all.items ≡ palette_levels format w h levels piece → vec_len all ≡ levels
    → IsPrepared image (Palette format w h levels) remakes align piece (record { part = Levels all; blanks = None })
unfolding given with_part
prepared-palette image format w h levels remakes align piece all good possible is count =
    prepared-is image (Palette format w h levels) remakes align piece (Levels all) None good possible (omega (arith, count, possible.most))
    (ap (λ (given : List TexelLevel). with_levels image given) is)
    (none-taken remakes (level_at (with_levels image (palette_levels format w h levels piece)) 0))
