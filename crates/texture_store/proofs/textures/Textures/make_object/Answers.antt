use Rattle.std.proofs.Common.{◌≡◌, ◌∙◌, ℕ, Bool, true, false, cond, refl, sym, ap, subst, Option, Some, None, Ok, is_some}
use Rattle.std.proofs.lemmas.Bool.{eq-eqb}
use Rattle.std.specs.Option.{option_map}
use Rattle.gl_tokens.specs.Commands.{done, unless}
use Rattle.gl_tokens.specs.declared.gl_error.GlError.TheVariants.{OutOfMemory}
use Rattle.object_names.specs.Giving.{lacks_room}
use Rattle.object_names.proofs.Seen.{room-seen}
use Rattle.texture_store.specs.Commands.{with_object}
use Rattle.texture_store.specs.Kept.{IsKept}
use Rattle.texture_store.specs.Stored.{StoredTextures, objects_of, texture_of, stored_at, with_stored}
use Rattle.texture_store.specs.Textures.{Texture, texture_at, with_texture, opening_texture, live_bytes}
use Rattle.texture_store.specs.declared.object.Object.{Object}
use Rattle.texture_store.proofs.ByValue.{texture_of_stored, objects-with_stored}
use Rattle.texture_store.proofs.Keeping.{IsBlank, bytes-blank, kept_blank}
use Rattle.texture_store.proofs.Storing.{put_above, stored-with_stored}
use Rattle.texture_store.proofs.textures.Textures.make_object.Goals as goal

texture_is : (s : StoredTextures) (name : _) (o : Option Object) → o ≡ stored_at s name → texture_at (objects_of s) name ≡ option_map texture_of o
texture_is s name o is = texture_of_stored s name ∙ ap (option_map texture_of) (sym is)

pub returns-in-Some-clause-run : goal.returns-in-Some-clause-run
returns-in-Some-clause-run c =
    let s = c.args.self.now in
    ap (λ (x : Option Texture). done (objects_of s) (with_object (objects_of s) c.args.name x)) (sym (texture_is s c.args.name (Some c.in-Some.field-0.now) c.in-Some.ensures))

missing : (s : StoredTextures) (name : ℕ) → None ≡ stored_at s name → (room : Bool) → lacks_room s.names name ≡ room →
    done (objects_of s) (unless room OutOfMemory (Ok (with_texture (objects_of s) name opening_texture)))
    ≡ done (objects_of s) (with_object (objects_of s) name (texture_at (objects_of s) name))
missing s name none room is =
    ap (λ b. done (objects_of s) (unless b OutOfMemory (Ok (with_texture (objects_of s) name opening_texture)))) (sym is ∙ sym (room-seen texture_of s.names name))
    ∙ ap (λ (x : Option Texture). done (objects_of s) (with_object (objects_of s) name x)) (sym (texture_is s name None none))

pub returns-then-lacks_room-clause-run : goal.returns-then-lacks_room-clause-run
returns-then-lacks_room-clause-run c =
    missing c.args.self.now c.args.name c.in_default.ensures true (ap (λ s. lacks_room s.names c.args.name) (sym c.self.view_is) ∙ sym c.lacks_room.ensures ∙ c.if-lacks_room.true)

abbrev was : goal.In_ok-put → StoredTextures
was c = record { names = c.self.inside.names; unnamed = c.self.inside.unnamed; bound = c.self.inside.bound; versions = c.self.inside.images.value }

none_of : (c : goal.In_ok-put) → stored_at (was c) c.args.name ≡ None
none_of c = ap (λ s. stored_at s c.args.name) c.self.view_is ∙ sym c.in_default.ensures

blank_of : (c : goal.In_ok-put) → IsBlank c.new.result
blank_of c = record { version = c.new.ensures.version; image = ap (λ t. t.image) c.new.ensures.texture }

put_is : (c : goal.In_ok-put) → with_stored (was c) c.args.name c.new.result ≡ record (was c) { names = c.put.new.self }
put_is c = put_above (was c) c.args.name c.new.result (none_of c) ∙ ap (λ names. record (was c) { names = names }) (sym c.in_ok-put.ensures.live)

pub invariant_of-self-2 : goal.invariant_of-self-2
invariant_of-self-2 c =
    let blank = bytes-blank (was c) c.args.name c.new.result (none_of c) (blank_of c) in (
      c.self.invariant.0 ∙ sym blank ∙ ap (λ s. live_bytes (objects_of s)) (put_is c),
      subst IsKept (put_is c) (kept_blank (was c) c.args.name c.new.result (none_of c) (blank_of c) c.self.invariant.1),
    )

pub returns-clause-run : goal.returns-clause-run
returns-clause-run c =
    let s = was c in
    let made : objects_of (record s { names = c.put.new.self }) ≡ with_texture (objects_of s) c.args.name opening_texture =
    ap objects_of (sym (put_is c)) ∙ objects-with_stored s c.args.name c.new.result ∙ ap (with_texture (objects_of s) c.args.name) c.new.ensures.texture in
    rw (← c.self.view_is)
    (ap (λ t. (t, None)) made ∙ missing s c.args.name (sym (none_of c)) false (sym c.lacks_room.ensures ∙ c.if-lacks_room.false))

pub returns-clause-made : goal.returns-clause-made
returns-clause-made c _ =
    ap (λ s. is_some (stored_at s c.args.name)) (sym (put_is c))
    ∙ ap is_some (stored-with_stored (was c) c.args.name c.new.result c.args.name)
    ∙ ap (λ b. is_some (cond b (Some c.new.result) (stored_at (was c) c.args.name))) (eq-eqb c.args.name c.args.name refl)
