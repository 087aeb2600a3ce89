-- A draw without error has as many vertices as it says.
use Rattle.std.proofs.Common.{◌≡◌, ◌<◌, ◌<ℤ◌, ℕ, ℤ, pos, negsuc, Bool, true, false, Option, Some, None, refl, arith}
use Rattle.std.proofs.lemmas.Int.{ints}
use Rattle.std.specs.Prelude.{if◌then◌else◌, int_lt, is_none, unsigned_abs}
use Rattle.gl_records.specs.declared.rec.Rec.{Rec}
use Rattle.gl_records.specs.declared.rec.Rec.TheVariants.{DrawArrays, DrawElements}
use Rattle.gl_tokens.specs.Mode as mode_codes
use Rattle.gl_tokens.specs.declared.gl_error.GlError.{GlError}
use Rattle.vertex_fetch.specs.Draws.{draw_error, is_bad_count, vertex_count}
use Rattle.buffer_objects.specs.declared.buffer_key.BufferKey.{BufferKey}
use Rattle.draw_primitives.specs.Draw.{HasVertices}

-- a number of vertices that can be drawn isn't below 0
counted : (count : ℤ) (k : ℕ) → is_bad_count count ≡ false → k < unsigned_abs count → pos k <ℤ count
counted (pos n) k is below = omega (arith, ints, below)
counted (negsuc n) k is below = absurd cc

-- the third condition of three, and the second of four, that aren't there
third-false : (a b c : Bool) (x y z : GlError) → (if a then Some x else if b then Some y else if c then Some z else None) ≡ None → c ≡ false
third-false true b c x y z is = absurd cc
third-false false true c x y z is = absurd cc
third-false false false true x y z is = absurd cc
third-false false false false x y z is = refl

second-false : (a b : Bool) (x y : GlError) (rest : Option GlError) → (if a then Some x else if b then Some y else rest) ≡ None → b ≡ false
second-false true b x y rest is = absurd cc
second-false false true x y rest is = absurd cc
second-false false false x y rest is = refl

pub has_vertices : (element : Option BufferKey) (rec : Rec) → draw_error element rec ≡ None → HasVertices element rec (unsigned_abs (vertex_count rec))
has_vertices element (DrawArrays mode first count) allowed = λ k below. record {
  allowed = allowed;
  below = counted count k (third-false (is_none (mode_codes.from_code_of mode)) (int_lt first (pos 0)) (is_bad_count count) _ _ _ allowed) below;
}
has_vertices element (DrawElements mode count code region offset) allowed = λ k below. record {
  allowed = allowed;
  below = counted count k (second-false (is_none (mode_codes.from_code_of mode)) (is_bad_count count) _ _ _ allowed) below;
}
has_vertices element _ allowed = λ k below. absurd (omega (arith, below))
