use Rattle.std.proofs.Common.{◌≡◌, ◌<◌, ◌↔◌, ℕ, Option, None, IfSome, sym, subst}
use Rattle.buffer_objects.specs.Buffers.{bound_at, bound_name}
use Rattle.buffer_objects.specs.Kept.{IsKept, IsLive}
use Rattle.buffer_objects.specs.declared.buffer_key.BufferKey.{BufferKey}
use Rattle.buffer_objects.proofs.Bound.{bound_none, bound_facts, first_fact, second_fact}
use Rattle.buffer_objects.proofs.buffers.Buffers.bound.Goals as goal

pub returns-clause-none : goal.returns-clause-none
returns-clause-none c =
    let kept : IsKept c.args.self.now = subst IsKept c.self.view_is c.self.invariant.1 in
    subst (λ (o : Option (ℕ × BufferKey)). (o ≡ None) ↔ (bound_name c.args.self.now c.args.target ≡ 0)) (sym c.bound_to-bound.ensures) (bound_none c.args.self.now c.args.target kept)

pub returns-clause-live : goal.returns-clause-live
returns-clause-live c =
    let kept : IsKept c.args.self.now = subst IsKept c.self.view_is c.self.invariant.1 in
    subst (λ (o : Option (ℕ × BufferKey)). IfSome o (λ bound. IsLive c.args.self.now bound.1)) (sym c.bound_to-bound.ensures)
    (first_fact (λ (bound : ℕ × BufferKey). IsLive c.args.self.now bound.1) (λ (bound : ℕ × BufferKey). bound.1.serial < c.args.self.now.made) (bound_at c.args.self.now c.args.target) (bound_facts c.args.self.now c.args.target kept))

pub returns-clause-given : goal.returns-clause-given
returns-clause-given c =
    let kept : IsKept c.args.self.now = subst IsKept c.self.view_is c.self.invariant.1 in
    subst (λ (o : Option (ℕ × BufferKey)). IfSome o (λ bound. bound.1.serial < c.args.self.now.made)) (sym c.bound_to-bound.ensures)
    (second_fact (λ (bound : ℕ × BufferKey). IsLive c.args.self.now bound.1) (λ (bound : ℕ × BufferKey). bound.1.serial < c.args.self.now.made) (bound_at c.args.self.now c.args.target) (bound_facts c.args.self.now c.args.target kept))
