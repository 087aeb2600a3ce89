use Rattle.std.specs.Prelude.{◌<◌, ℕ, zero, suc, pos, IsTrue}
use Rattle.std.proofs.Common.{refl, arith}
use Rattle.std.proofs.lemmas.Int.{ints}
use Rattle.gl_records.specs.declared.pixel_box.PixelBox.{PixelBox}
use Rattle.gl_records.specs.PixelBox.{holds}
use Rattle.whole_surface.proofs.tests.triangle.Goals as goal

both : PixelBox
both = record { x0 = pos 0; y0 = pos 0; x1 = pos 2; y1 = pos 1 }

inside : (x y : ℕ) → x < 2 → y < 1 → IsTrue (holds both x y)
unfolding both
inside zero zero h i = refl
inside (suc zero) zero h i = refl
inside (suc (suc x)) zero h i = absurd (omega arith)
inside x (suc y) h i = absurd (omega arith)

pub returns : goal.returns
unfolding both
returns c = record {
  in_range = record { first = c.corner.ensures; second = c.corner-2.ensures; third = c.corner-3.ensures; width = tt };
  bounds = record {
    left = omega (arith, ints);
    bottom = omega (arith, ints);
    right = omega (arith, ints);
    top = omega (arith, ints);
    columns = omega (arith, ints);
    rows = omega (arith, ints);
  };
  holds_covered = λ x y column row covered. inside x y column row;
}
