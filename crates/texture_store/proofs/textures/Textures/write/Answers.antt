use Rattle.std.proofs.Common.{◌≡◌, ◌+◌, ◌-◌, ◌∙◌, ℕ, refl, ap, sym, subst, Bool, None, Result, Ok, is_some, true, arith}
use Rattle.gl_records.specs.ImageBytes.{image_bytes}
use Rattle.gl_records.specs.declared.level.ImageSet.{ImageSet}
use Rattle.gl_records.specs.declared.rec.Rec.{Rec}
use Rattle.gl_tokens.specs.Commands.{done, ◌>>=◌}
use Rattle.gl_tokens.specs.declared.gl_error.GlError.{GlError}
use Rattle.image_commands.specs.Asked.{piece_of}
use Rattle.image_commands.specs.Prepared.{IsReady as IsPrepared, put_of}
use Rattle.image_commands.specs.Written.{IsGood, written}
use Rattle.image_commands.specs.declared.image_write.ImageWrite.{ImageWrite}
use Rattle.image_commands.proofs.Good.{good-bytes}
use Rattle.texture_ghosts.specs.Versions.{waits}
use Rattle.texture_store.specs.Changes.{planned_of, rule_at}
use Rattle.texture_store.specs.Stored.{StoredTextures, image_of_name, objects_of, stored_at, version_at}
use Rattle.texture_store.specs.Textures.{bound_name, bound_texture, live_bytes, texture_at, texture_bytes, texture_or_opening}
use Rattle.texture_store.specs.Writes.{with_image, written as written_of}
use Rattle.texture_store.proofs.Writing.{bytes-with_image, image_good, image_is, not_waits, past, ready_of, size_of_name, texture_lives, write_pinned, write_unpinned, written_planned}
use Rattle.texture_store.proofs.textures.Textures.write.Goals as goal

-- the command as it was planned, by the values that the function has
by_plan : (s : StoredTextures) (unit align others name : ℕ) (rec : Rec) (image : ImageSet) (remakes : Bool) → name ≡ bound_name (objects_of s) unit → is_some (stored_at s name) ≡ true →
    image_of_name s name ≡ image → (bound_texture (objects_of s) unit).parameters.remakes ≡ remakes → others + image_bytes image ≡ live_bytes (objects_of s) →
    written_of (objects_of s) unit align rec
    ≡ done (objects_of s) (planned_of image rec remakes align others >>= (λ (p : ImageWrite × ℕ). Ok (with_image (objects_of s) name (written image p.0 remakes align (piece_of rec)))))
by_plan s unit align others name rec image remakes named lives same told sum =
    let t = objects_of s in
    let its : (bound_texture t unit).image ≡ image = ap (image_of_name s) (sym named) ∙ same in
    let all : others + texture_bytes (bound_texture t unit) ≡ live_bytes t = ap (λ i. others + image_bytes i) its ∙ sum in
    written_planned t unit align others rec (texture_lives s (bound_name t unit) (subst (λ n. is_some (stored_at s n) ≡ true) named lives)) all
    ∙ (λ i. done t (planned_of (its i) rec (told i) align others >>= (λ (p : ImageWrite × ℕ). Ok (with_image t (sym named i) (written (its i) p.0 (told i) align (piece_of rec))))))

pub overflow_cast-others : goal.overflow_cast-others
overflow_cast-others c =
    let s = c.args.self.now in
    let name = c.bound-name.result in
    let image = c.image_of-image.result.now in
    let same = image_is s c.args.images.now name c.version-version.result image c.bound-name.ensures.object c.version-version.ensures c.requires.of c.live.ensures.kept c.image_of-image.ensures in
    let few = good-bytes image (subst IsGood same (image_good s name c.bound-name.ensures.object c.live.ensures.kept)) in
    omega (arith, few, c.bytes.ensures)

pub overflow_sub-others : goal.overflow_sub-others
overflow_sub-others c =
    let s = c.args.self.now in
    let name = c.bound-name.result in
    let same = image_is s c.args.images.now name c.version-version.result c.image_of-image.result.now c.bound-name.ensures.object c.version-version.ensures c.requires.of c.live.ensures.kept c.image_of-image.ensures in
    omega (arith, c.bytes.ensures, ap image_bytes same, size_of_name (objects_of s) name, c.live.ensures.value)

-- what the other images have, beside this one
rest : (s : StoredTextures) (name live bytes : ℕ) (image : ImageSet) → image_of_name s name ≡ image → bytes ≡ image_bytes image → live ≡ live_bytes (objects_of s) → (live - bytes) + image_bytes image ≡ live_bytes (objects_of s)
rest s name live bytes image same size all =
    omega (arith, size, all, ap image_bytes same, size_of_name (objects_of s) name)

pub returns-in-Err-clause-answer : goal.returns-in-Err-clause-answer
returns-in-Err-clause-answer c =
    let s = c.args.self.now in
    let t = objects_of s in
    let name = c.bound-name.result in
    let image = c.image_of-image.result.now in
    let others = c.live.result - c.bytes.result in
    let same = image_is s c.args.images.now name c.version-version.result image c.bound-name.ensures.object c.version-version.ensures c.requires.of c.live.ensures.kept c.image_of-image.ensures in
    let told = ap (λ p. p.remakes) (sym c.bound_parameters-remakes.ensures) in
    let sum = rest s name c.live.result c.bytes.result image same c.bytes.ensures c.live.ensures.value in
    let plan = by_plan s c.args.unit c.args.align others name c.args.rec.now image c.bound_parameters-remakes.result.remakes c.bound-name.ensures.value c.bound-name.ensures.object same told sum in (
      ap (λ (r : Result (ImageWrite × ℕ) GlError). done t (r >>= (λ (p : ImageWrite × ℕ). Ok (with_image t name (written image p.0 c.bound_parameters-remakes.result.remakes c.args.align (piece_of c.args.rec.now))))))
          (c.in-Err.ensures.value c.args.align) ∙ sym plan,
      refl,
    )

pub returns-in-NeedsDrain-clause-answer : goal.returns-in-NeedsDrain-clause-answer
returns-in-NeedsDrain-clause-answer c =
    let s = c.args.self.now in
    let t = objects_of s in
    let name = c.bound-name.result in
    let image = c.image_of-image.result.now in
    let others = c.live.result - c.bytes.result in
    let same = image_is s c.args.images.now name c.version-version.result image c.bound-name.ensures.object c.version-version.ensures c.requires.of c.live.ensures.kept c.image_of-image.ensures in
    let told = ap (λ p. p.remakes) (sym c.bound_parameters-remakes.ensures) in
    let sum = rest s name c.live.result c.bytes.result image same c.bytes.ensures c.live.ensures.value in
    let plan = by_plan s c.args.unit c.args.align others name c.args.rec.now image c.bound_parameters-remakes.result.remakes c.bound-name.ensures.value c.bound-name.ensures.object same told sum in
    let version = c.version-version.ensures ∙ ap (version_at s) c.bound-name.ensures.value in (
      ap (λ x. x.1) plan
          ∙ ap (λ (r : Result (ImageWrite × ℕ) GlError). (done t (r >>= (λ (p : ImageWrite × ℕ). Ok (with_image t name (written image p.0 c.bound_parameters-remakes.result.remakes c.args.align (piece_of c.args.rec.now)))))).1)
          (sym (c.in-Ok.ensures.value c.args.align)),
      past c.args.images.now (version_at s (bound_name t c.args.unit)) c.in-NeedsDrain.held c.in-NeedsDrain.bytes (ap (rule_at c.args.images.now) (sym version) ∙ sym c.plan-wrote.ensures ∙ c.in-NeedsDrain.is),
      refl,
    )

pub put-requires : goal.put-requires
put-requires c =
    let s = c.args.self.now in
    let t = objects_of s in
    let name = c.bound-name.result in
    let image = c.image_of-image.result.now in
    let others = c.live.result - c.bytes.result in
    let same = image_is s c.args.images.now name c.version-version.result image c.bound-name.ensures.object c.version-version.ensures c.requires.of c.live.ensures.kept c.image_of-image.ensures in
    let sum : others + texture_bytes (texture_or_opening (texture_at t name)) ≡ live_bytes t = ap (λ i. others + image_bytes i) same ∙ rest s name c.live.result c.bytes.result image same c.bytes.ensures c.live.ensures.value in
    let new = written image c.in-Ok.planned.0 c.bound_parameters-remakes.result.remakes c.args.align (piece_of c.args.rec.now) in
    let made : put_of (image_of_name s name) c.in_ok-prepared.prepared ≡ new = ap (λ i. put_of i c.in_ok-prepared.prepared) same ∙ c.in_ok-prepared.ensures.value
    ∙ ap (λ piece. written image c.in-Ok.planned.0 c.bound_parameters-remakes.result.remakes c.args.align piece) c.piece_of.ensures in
    record {
      object = c.bound-name.ensures.object;
      lent = c.requires.lent;
      of = c.requires.of;
      rule = c.plan-wrote.ensures ∙ ap (rule_at c.args.images.now) c.version-version.ensures;
      now = not_waits c.plan-wrote.result c.in_default.not-NeedsDrain;
      ready = subst (λ i. IsPrepared i c.in_ok-prepared.prepared) (sym same) c.in_ok-prepared.ensures.ready;
      good = subst (λ i. IsGood (put_of i c.in_ok-prepared.prepared)) (sym same) c.in_ok-prepared.ensures.good;
      live = c.in-Ok.ensures.bytes c.args.align ∙ sym (bytes-with_image t name new others (texture_lives s name c.bound-name.ensures.object) sum) ∙ ap (λ i. live_bytes (with_image t name i)) (sym made);
      few = c.in-Ok.ensures.few;
    }

pub returns : goal.returns
returns c =
    let s = c.args.self.now in
    let t = objects_of s in
    let name = c.bound-name.result in
    let image = c.image_of-image.result.now in
    let others = c.live.result - c.bytes.result in
    let same = image_is s c.args.images.now name c.version-version.result image c.bound-name.ensures.object c.version-version.ensures c.requires.of c.live.ensures.kept c.image_of-image.ensures in
    let told = ap (λ p. p.remakes) (sym c.bound_parameters-remakes.ensures) in
    let sum = rest s name c.live.result c.bytes.result image same c.bytes.ensures c.live.ensures.value in
    let plan = by_plan s c.args.unit c.args.align others name c.args.rec.now image c.bound_parameters-remakes.result.remakes c.bound-name.ensures.value c.bound-name.ensures.object same told sum in
    let version = c.version-version.ensures ∙ ap (version_at s) c.bound-name.ensures.value in
    let new = written image c.in-Ok.planned.0 c.bound_parameters-remakes.result.remakes c.args.align (piece_of c.args.rec.now) in
    let made : put_of (image_of_name s name) c.in_ok-prepared.prepared ≡ new = ap (λ i. put_of i c.in_ok-prepared.prepared) same ∙ c.in_ok-prepared.ensures.value
    ∙ ap (λ piece. written image c.in-Ok.planned.0 c.bound_parameters-remakes.result.remakes c.args.align piece) c.piece_of.ensures in
    record {
      answer = (
        ap (λ objects. (objects, None)) (c.in_ok-put.ensures.objects ∙ ap (with_image t name) made)
            ∙ ap (λ (r : Result (ImageWrite × ℕ) GlError). done t (r >>= (λ (p : ImageWrite × ℕ). Ok (with_image t name (written image p.0 c.bound_parameters-remakes.result.remakes c.args.align (piece_of c.args.rec.now))))))
            (c.in-Ok.ensures.value c.args.align) ∙ sym plan,
        ready_of c.args.images.now (version_at s (bound_name t c.args.unit))
            (ap waits (ap (rule_at c.args.images.now) (sym version) ∙ sym c.plan-wrote.ensures) ∙ not_waits c.plan-wrote.result c.in_default.not-NeedsDrain),
      );
      of = c.put.ensures.of;
      lent = c.put.ensures.lent;
      pinned = write_pinned c.args.images.now c.put.new.images (version_at s name) c.in_ok-put.ensures.moved;
      unpinned = λ unpinned. (write_unpinned c.args.images.now c.put.new.images (version_at s name) c.in_ok-put.ensures.moved unpinned, tt);
      unchanged = tt;
      images = tt;
    }
