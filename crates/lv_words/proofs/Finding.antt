-- What clap finds, as settings.
use Rattle.std.proofs.Common.{◌≡◌, ◌∙◌, ap, sym, refl, List, [], ◌∷◌, Option, None, inl, inr}
use Rattle.std.specs.Prelude.{option_and_then}
use Rattle.clap.specs.Walk.{Row, first_of, rows_of}
use Rattle.clap.specs.Matches.{first_value}
use Rattle.clap.specs.Simple.{matches_of}
use Rattle.clap.specs.Faults.{fault_of}
use Rattle.clap.specs.Kinds.{HasKind, IsAmong, Kinds}
use Rattle.clap.specs.Values.{kind_of}
use Rattle.clap.specs.declared.error.Error.{Error}
use Rattle.clap.specs.declared.error.kind.ErrorKind.TheVariants as kind
use Rattle.clap.specs.declared.error.kind.ErrorKind.{ErrorKind}
use Rattle.clap.specs.declared.parser.matches.Found.{Found}
use Rattle.clap.proofs.WalkLemmas.{first_value-rows}
use Rattle.lv_words.specs.Line.{found_or, lazyview, read}
use Rattle.lv_words.specs.Values.{Text, settings}

given_is : (f : Found) → first_value f ≡ (λ (id : Text). first_of id (rows_of f))
given_is f = λ i id. first_value-rows f id i

pub reads_as : (f : Found) (words : List Text) → fault_of lazyview words ≡ [] → rows_of f ≡ matches_of lazyview words → read words ≡ settings (first_value f)
reads_as f words none rows =
    let lookup : List Row → Text → Option Text = λ r id. first_of id r in
    ap (λ (ks : Kinds). option_and_then settings (found_or ks (λ (id : Text). first_of id (matches_of lazyview words)))) none
    ∙ ap settings (ap lookup (sym rows) ∙ sym (given_is f))

refuses : (k : ErrorKind) (words : List Text) → IsAmong k (fault_of lazyview words) → read words ≡ None
refuses k words among = go (fault_of lazyview words) among
  where
    go : (ks : Kinds) → IsAmong k ks → option_and_then settings (found_or ks (λ (id : Text). first_of id (matches_of lazyview words))) ≡ None
    go [] none = absurd none
    go (x ∷ xs) h = refl

pub refuses_but_memory : (e : Error) (words : List Text) → HasKind (fault_of lazyview words) e → (kind_of e ≡ kind.OutOfMemory → ⊥) → read words ≡ None
refuses_but_memory e words (inl memory) other = absurd (other memory)
refuses_but_memory e words (inr among) other = refuses (kind_of e) words among
