-- A texture unit that is on, with its image.
use Rattle.std.specs.Prelude.{◌≡◌, ℕ, ℤ, List, Option, Some, None}
use Rattle.gl_records.specs.declared.level.ImageSet.{ImageSet}
use Rattle.gl_records.specs.declared.prim.Primitive.{Primitive}
use Rattle.gl_records.specs.declared.unit_state.UnitState.{UnitState}
use Rattle.gl_records.specs.TextureEnvironment.{textured}

pub record TextureUnit : Type 0 where
  pub unit : UnitState
  pub set : ImageSet

-- this is a state's unit with its image; where there is none, the unit leaves each colour as it comes in
abbrev pub IsUnitOf : Option TextureUnit → Option UnitState → Option ImageSet → Type 0
IsUnitOf (Some of) unit image = (unit ≡ Some of.unit) × (image ≡ Some of.set)
IsUnitOf None unit image = (p : Primitive) (k : ℕ) (x y : ℤ) (primary previous : List ℕ) → textured unit image p k x y primary previous ≡ previous
