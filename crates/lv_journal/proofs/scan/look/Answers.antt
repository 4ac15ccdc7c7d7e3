use Rattle.std.proofs.Common.{◌≡◌, ◌-◌, ℕ, length, min, take, drop, sym, ◌∙◌, ap, arith, length-drop}
use Rattle.lv_journal.specs.Bytes.{found_at}
use Rattle.lv_journal.proofs.Reading.{head_told, some_goes}
use Rattle.lv_journal.proofs.scan.look.Goals as goal

pub returns-clause-told : goal.returns-clause-told
returns-clause-told g c =
    let n = c.in_ok-count.count in
    let buf = c.read.new.buf in
    let five : length buf ≡ 5 = omega arith in
    some_goes (λ f. (take n buf ≡ take n (drop c.args.gate f)) × (n ≡ min (length f - c.args.gate) (length buf))) (λ f. c.args.left ≡ length f - c.args.gate → c.what_stands.result ≡ found_at (drop c.args.gate f)) (g.D.Disk.seen c.args.disk.now)
    (λ f given is. c.what_stands.ensures.told (drop c.args.gate f) (head_told f buf c.args.gate n given.0 (given.1 ∙ ap (λ (k : ℕ). min (length f - c.args.gate) k) five)) (is ∙ sym (length-drop c.args.gate f)))
    c.in_ok-count.ensures.given.1
