use Rattle.std.proofs.Common.{ℕ, List, ◌++◌, ap, ◌∙◌}
use Rattle.gl_tokens.specs.declared.base_format.BaseFormat.{BaseFormat}
use Rattle.gl_tokens.specs.declared.texel_type.TexelType.{TexelType}
use Rattle.pixel_unpack.specs.Image.{texel_row}
use Rattle.pixel_unpack.specs.Palette.{entry_format, entry_kind}
use Rattle.pixel_unpack.proofs.Palettes.{row-entries}
use Rattle.pixel_unpack.proofs.palette.entries.Goals as goal

pub returns : goal.returns
returns c =
    let piece = c.args.piece.now in
    c.in_ok-push_texels.ensures
    ∙ ap (λ (front : List ℕ). front ++ texel_row c.entry_format.result c.entry_kind.result c.entry_count-count.result piece 0) c.in_ok-palette.ensures.items
    ∙ ap (λ (base : BaseFormat). texel_row base c.entry_kind.result c.entry_count-count.result piece 0) c.entry_format.ensures
    ∙ ap (λ (kind : TexelType). texel_row (entry_format c.args.format) kind c.entry_count-count.result piece 0) c.entry_kind.ensures
    ∙ ap (λ (count : ℕ). texel_row (entry_format c.args.format) (entry_kind c.args.format) count piece 0) c.entry_count-count.ensures
    ∙ row-entries c.args.format piece
