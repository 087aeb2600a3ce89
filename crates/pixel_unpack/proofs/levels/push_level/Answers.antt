use Rattle.std.proofs.Common.{◌≡◌, ◌++◌, ◌<◌, ◌^◌, ◌+◌, ℕ, List, OnOk, subst, sym, ◌∙◌, inl, inr, arith, get_or}
use Rattle.pixel_unpack.specs.Palette.{index_bits, index_at}
use Rattle.pixel_unpack.proofs.Palettes.{named-entries, nibble-below}
use Rattle.pixel_unpack.proofs.levels.push_level.Goals as goal

pub returns-then-index_bits-eq4 : goal.returns-then-index_bits-eq4
returns-then-index_bits-eq4 c =
    let piece = c.args.piece.now in
    let four : index_bits c.args.format ≡ 4 = sym c.index_bits.ensures.value ∙ c.if-index_bits-eq4.true in
    let bytes : (i : ℕ) → get_or piece i 0 < 256 = λ i. let fits = c.type_inv.piece i in omega arith in
    let below : (k : ℕ) → index_at 4 piece c.args.start k < 2 ^ 4 = λ k. nibble-below piece c.args.start k bytes in
    let named = named-entries c.args.format piece c.args.palette.now 4 c.args.start c.args.count c.requires.all four below in
    let P : List ℕ → Type 0 = λ made. OnOk c.push_by_nibbles.result (c.push_by_nibbles.new.texels.items ≡ c.args.texels.now.items ++ made) in
    subst P named c.push_by_nibbles.ensures

pub returns-else-index_bits-eq4 : goal.returns-else-index_bits-eq4
returns-else-index_bits-eq4 c =
    let piece = c.args.piece.now in
    let eight : index_bits c.args.format ≡ 8 = sym c.index_bits.ensures.value ∙ elim c.index_bits.ensures.either [ inl e ↦ absurd (c.if-index_bits-eq4.false e) | inr e ↦ e ] in
    let below : (k : ℕ) → index_at 8 piece c.args.start k < 2 ^ 8 = λ k. let fits = c.type_inv.piece (c.args.start + k) in omega arith in
    let named = named-entries c.args.format piece c.args.palette.now 8 c.args.start c.args.count c.requires.all eight below in
    let P : List ℕ → Type 0 = λ made. OnOk c.push_by_bytes.result (c.push_by_bytes.new.texels.items ≡ c.args.texels.now.items ++ made) in
    subst P named c.push_by_bytes.ensures
