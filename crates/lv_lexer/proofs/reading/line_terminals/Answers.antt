use Rattle.std.proofs.Common.{◌<◌, ◌^◌, List, sym, subst}
use Rattle.std.specs.List.{All}
use Rattle.lv_lexer.specs.declared.terminals.Terminal.{Terminal}
use Rattle.lv_lexer.specs.Next.{token_at}
use Rattle.lv_lexer.proofs.Onward.{IsRead, one_more, one_small, all_read}
use Rattle.lv_lexer.proofs.reading.line_terminals.Goals as goal

pub each-preserved : goal.each-preserved
each-preserved c =
    let line = c.args.line.now in
    let next = rw c.as_bytes-in-each.ensures.same at c.in-Token.ensures in
    let token = token_at c.in-Token.kind c.in-Token.start c.in-Token.end in
    let P : List Terminal → Type 0 = λ ts. IsRead line ts token.end in
    let Q : List Terminal → Type 0 = λ ts. All (λ t. t.number < 10 ^ 38) ts in
    record {
      within = next.1.within;
      read = subst P (sym c.in_ok-push-in-Token.ensures.added)
          (one_more line c.each.list c.each.at token c.in_ok-read_between-in-Token.field-0 c.each.invariant.read c.in_ok-read_between-in-Token.ensures.said next.2);
      small = subst Q (sym c.in_ok-push-in-Token.ensures.added) (one_small c.each.list c.in_ok-read_between-in-Token.field-0 c.each.invariant.small c.in_ok-read_between-in-Token.ensures.small);
    }

pub returns-in-End-clause-said : goal.returns-in-End-clause-said
returns-in-End-clause-said c =
    (all_read c.args.line.now c.each.list c.each.at c.in-End.stopped c.each.invariant.read (rw c.as_bytes-in-each.ensures.same at c.in-End.ensures)).0

pub returns-in-End-clause-stopped : goal.returns-in-End-clause-stopped
returns-in-End-clause-stopped c =
    (all_read c.args.line.now c.each.list c.each.at c.in-End.stopped c.each.invariant.read (rw c.as_bytes-in-each.ensures.same at c.in-End.ensures)).1
