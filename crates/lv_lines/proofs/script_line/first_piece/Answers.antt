use Rattle.std.proofs.Common.{take, drop, ap, ◌∙◌}
use Rattle.lv_lines.proofs.Pieces.{pieces_last, pieces_cut, feed_free}
use Rattle.lv_lines.proofs.script_line.first_piece.Goals as goal

pub returns-in-empty-clause-first : goal.returns-in-empty-clause-first
returns-in-empty-clause-first c =
    let len = c.piece_len.ensures.value in
    pieces_last c.args.bytes.now _ _ c.requires (c.split_at.ensures.front ∙ ap (λ n. take n c.args.bytes.now) len) (c.split_at.ensures.back ∙ ap (λ n. drop n c.args.bytes.now) len) c.in-empty.len_below

pub returns-in-empty-clause-no_feed : goal.returns-in-empty-clause-no_feed
returns-in-empty-clause-no_feed c = feed_free c.args.bytes.now _ (c.split_at.ensures.front ∙ ap (λ n. take n c.args.bytes.now) c.piece_len.ensures.value)

pub returns-in-len1-up-clause-first : goal.returns-in-len1-up-clause-first
returns-in-len1-up-clause-first c =
    let len = c.piece_len.ensures.value in
    pieces_cut c.args.bytes.now _ _ c.requires (c.split_at.ensures.front ∙ ap (λ n. take n c.args.bytes.now) len) (c.split_at.ensures.back ∙ ap (λ n. drop n c.args.bytes.now) len)

pub returns-in-len1-up-clause-no_feed : goal.returns-in-len1-up-clause-no_feed
returns-in-len1-up-clause-no_feed c = feed_free c.args.bytes.now _ (c.split_at.ensures.front ∙ ap (λ n. take n c.args.bytes.now) c.piece_len.ensures.value)
