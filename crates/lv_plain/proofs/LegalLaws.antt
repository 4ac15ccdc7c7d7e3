-- Legal lists of entries, put together and cut.
use Rattle.std.proofs.Common.{◌≡◌, List, [], ◌∷◌, ◌++◌, refl, ap, ◌∙◌}
use Rattle.std.specs.Prelude.{Option, Some, None}
use Rattle.lv_plain.specs.declared.entry.Entry.{Entry}
use Rattle.lv_plain.specs.declared.event.Event.{Event}
use Rattle.lv_plain.specs.Legal.{MayCome, after_entry, Legal, after, events_by, event_of, events_of}
use Rattle.lv_plain.specs.Machine.{State}
use Rattle.lv_plain.specs.Rules.{Rules}

module _ (rules : Rules) where
  pub after-append : (s : State) (es fs : List Entry) → after rules s (es ++ fs) ≡ after rules (after rules s es) fs
  after-append s [] fs = refl
  after-append s (e ∷ es) fs = after-append (after_entry rules s e) es fs

  -- legal entries, and then entries that are legal after them
  pub Legal-append : (s : State) (es fs : List Entry) → Legal rules s es → Legal rules (after rules s es) fs → Legal rules s (es ++ fs)
  Legal-append s [] fs a b = b
  Legal-append s (e ∷ es) fs a b = (a.0, Legal-append (after_entry rules s e) es fs a.1 b)

  -- legal entries, cut anywhere
  pub Legal-cut : (s : State) (es fs : List Entry) → Legal rules s (es ++ fs) → Legal rules s es × Legal rules (after rules s es) fs
  Legal-cut s [] fs a = (tt, a)
  Legal-cut s (e ∷ es) fs a = let rest = Legal-cut (after_entry rules s e) es fs a.1 in ((a.0, rest.0), rest.1)

  pub Legal-snoc : (s : State) (es : List Entry) (e : Entry) → Legal rules s es → MayCome rules (after rules s es) e → Legal rules s (es ++ e ∷ [])
  Legal-snoc s es e a b = Legal-append s es (e ∷ []) a (b, tt)

  by-append : (o : Option Event) (xs ys : List Event) → events_by rules o (xs ++ ys) ≡ events_by rules o xs ++ ys
  by-append None xs ys = refl
  by-append (Some event) xs ys = refl

  pub events_of-append : (s : State) (es fs : List Entry) → events_of rules s (es ++ fs) ≡ events_of rules s es ++ events_of rules (after rules s es) fs
  events_of-append s [] fs = refl
  events_of-append s (e ∷ es) fs =
      ap (events_by rules (event_of s e)) (events_of-append (after_entry rules s e) es fs)
      ∙ by-append (event_of s e) (events_of rules (after_entry rules s e) es) (events_of rules (after rules s (e ∷ es)) fs)
