use Rattle.std.proofs.Common.{◌≡◌, ◌+◌, ◌∙◌, List, ℕ, length, max, ap, subst}
use Rattle.lv_outside.specs.Images.{Holds}
use Rattle.lv_outside.specs.Crashes.{filling}
use Rattle.lv_outside.proofs.Crashes.{length-filling, holds_exact, holds_size, holds_torn}
use Rattle.lv_outside.proofs.crash_disk.tear.Goals as goal

pub returns-clause-exact : goal.returns-clause-exact
returns-clause-exact c =
    let old = c.args.image.now.items in
    let piece : c.deref-2.result.now ≡ filling c.args.pick old c.args.at c.args.count = c.deref-2.ensures.value ∙ c.in_ok-piece.ensures ∙ ap (λ (l : List ℕ). filling c.args.pick l c.args.at c.args.count) c.deref.ensures.value in
    let holds : Holds c.args.at c.deref-2.result.now old c.put_at.new.bytes.items = subst (λ (l : List ℕ). Holds c.args.at c.deref-2.result.now l c.put_at.new.bytes.items) c.reserve.ensures.items c.put_at.ensures.written in
    holds_exact c.args.pick c.args.at c.args.count c.deref-2.result.now old c.put_at.new.bytes.items holds piece

pub returns-clause-size : goal.returns-clause-size
returns-clause-size c =
    let old = c.args.image.now.items in
    let piece : c.deref-2.result.now ≡ filling c.args.pick old c.args.at c.args.count = c.deref-2.ensures.value ∙ c.in_ok-piece.ensures ∙ ap (λ (l : List ℕ). filling c.args.pick l c.args.at c.args.count) c.deref.ensures.value in
    let count : length c.deref-2.result.now ≡ c.args.count = ap length piece ∙ length-filling c.args.pick old c.args.at c.args.count in
    let holds : Holds c.args.at c.deref-2.result.now old c.put_at.new.bytes.items = subst (λ (l : List ℕ). Holds c.args.at c.deref-2.result.now l c.put_at.new.bytes.items) c.reserve.ensures.items c.put_at.ensures.written in
    holds_size c.args.at c.deref-2.result.now old c.put_at.new.bytes.items holds c.requires ∙ ap (λ (n : ℕ). max (length old) (c.args.at + n)) count

pub returns-clause-torn : goal.returns-clause-torn
returns-clause-torn c =
    let old = c.args.image.now.items in
    let piece : c.deref-2.result.now ≡ filling c.args.pick old c.args.at c.args.count = c.deref-2.ensures.value ∙ c.in_ok-piece.ensures ∙ ap (λ (l : List ℕ). filling c.args.pick l c.args.at c.args.count) c.deref.ensures.value in
    let count : length c.deref-2.result.now ≡ c.args.count = ap length piece ∙ length-filling c.args.pick old c.args.at c.args.count in
    let holds : Holds c.args.at c.deref-2.result.now old c.put_at.new.bytes.items = subst (λ (l : List ℕ). Holds c.args.at c.deref-2.result.now l c.put_at.new.bytes.items) c.reserve.ensures.items c.put_at.ensures.written in
    holds_torn c.args.at c.args.count c.deref-2.result.now old c.put_at.new.bytes.items holds count c.requires
