-- The logical operation (OpenGL ES 1.1.12, 4.1.9), on the bits of components.
use Rattle.std.specs.Prelude.{ℕ, List, bit_and, bit_or, bit_xor, slice_index}
use Rattle.gl_tokens.specs.declared.logic_op.LogicOp.{LogicOp}
use Rattle.gl_tokens.specs.declared.logic_op.LogicOp.TheVariants.{Clear, And, AndReverse, Copy, AndInverted, NoOp, Xor, Or, Nor, Equivalent, Invert, OrReverse, CopyInverted, OrInverted, Nand, Set}
use Rattle.gl_records.specs.Color.{color_of}

-- the other bits of a byte
abbrev pub inverted : ℕ → ℕ
inverted byte = bit_xor byte 255

-- what is made of a component of the fragment and of the one that is there
abbrev pub operated : LogicOp → ℕ → ℕ → ℕ
operated Clear source destination = 0
operated And source destination = bit_and source destination
operated AndReverse source destination = bit_and source (inverted destination)
operated Copy source destination = source
operated AndInverted source destination = bit_and (inverted source) destination
operated NoOp source destination = destination
operated Xor source destination = bit_xor source destination
operated Or source destination = bit_or source destination
operated Nor source destination = inverted (bit_or source destination)
operated Equivalent source destination = inverted (bit_xor source destination)
operated Invert source destination = inverted destination
operated OrReverse source destination = bit_or source (inverted destination)
operated CopyInverted source destination = inverted source
operated OrInverted source destination = bit_or (inverted source) destination
operated Nand source destination = inverted (bit_and source destination)
operated Set source destination = 255

-- the same of each component
abbrev pub operated_color : LogicOp → List ℕ → List ℕ → List ℕ
operated_color operation source destination = color_of (λ k. operated operation (slice_index source k) (slice_index destination k))
