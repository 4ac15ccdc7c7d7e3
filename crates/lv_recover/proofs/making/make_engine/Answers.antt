use Rattle.std.proofs.Common.{◌-◌, ◌^◌, ℕ, map, None, sym, ap, ◌∙◌, subst}
use Rattle.std.specs.Prelude.{min}
use Rattle.lv_record.specs.Spelling.{spelling}
use Rattle.lv_replay.specs.Replayed.{state_of}
use Rattle.lv_store.specs.Kept.{StoreKept, Stands}
use Rattle.lv_engine.specs.Kept.{length_of}
use Rattle.lv_recover.proofs.Whole.{long_with}
use Rattle.lv_recover.proofs.making.make_engine.Goals as goal

pub returns-clause-stands : goal.returns-clause-stands
returns-clause-stands g c = λ recs k h is.
    let journal = c.finish-journal.ensures.stands (map spelling recs) h.read in
    let long = c.meaning.ensures.length (map spelling recs) None journal ∙ long_with c.records_are_spelled_one_way.ensures.long recs h.spelled in
    record {
      store_stands = subst (λ (s : StoreKept). Stands (state_of recs) s) (sym c.open.ensures.store) is;
      journal_is = ap (λ j. length_of j) c.open.ensures.journal ∙ ap (λ (n : ℕ). min n (2 ^ 64 - 1)) long ∙ sym (c.journal_is_as_long_as_its_records.ensures recs);
    }
