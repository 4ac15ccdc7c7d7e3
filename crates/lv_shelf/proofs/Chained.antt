-- Chains of slots by links.
use Rattle.std.proofs.Common.{◌≡◌, ℕ, zero, suc, ◌+◌, ◌-◌, ◌<◌, ◌≤◌, Bool, true, false, List, [], ◌∷◌, ◌++◌, length, length-append, append_assoc, map, drop, get_or, set, Some, None, refl, sym, ap, ap₂, ◌∙◌, subst, arith}
use Rattle.std.specs.Prelude.{slice_get}
use Rattle.std.specs.List.{AllByRecursion, cons_option, insert, remove}
use Rattle.std.proofs.lemmas.List.{drop-append-le, get_or_append_left, get_or-map, get_or_push, get_or_read, length-map}
use Rattle.std.proofs.lemmas.List.Edits.{insert-append_right, remove-append_right}
use Rattle.std.proofs.lemmas.Option.{slice_get-get_or}
use Rattle.lv_schema.proofs.Apart.{all_append, all_both, all_weaker}
use Rattle.lv_shelf.specs.declared.chains.Link.{Link}
use Rattle.lv_shelf.specs.Cuts.{Apart}
use Rattle.lv_shelf.specs.Shelves.{Differ}
use Rattle.lv_shelf.specs.Chains.{AreLinked, Follows, IsLinked, all_newest, chain_of, joined, later_or, link_of, linked, newest_of, newest_that}
use Rattle.lv_shelf.proofs.Among.{all_remove, apart_remove}
use Rattle.lv_shelf.proofs.Cutting.{all_at}
use Rattle.lv_shelf.proofs.Shelved.{all_insert, all_last, apart_insert}

-- ---- parts of lists
pub all_split : {X : Type 0} (P : X → Type 0) (xs ys : List X) → AllByRecursion P (xs ++ ys) → AllByRecursion P xs × AllByRecursion P ys
all_split P [] ys a = (tt, a)
all_split P (x ∷ xs) ys a = let more = all_split P xs ys a.1 in ((a.0, more.0), more.1)

pub apart_split : {X : Type 0} (R : X → X → Type 0) (xs ys : List X) → Apart R (xs ++ ys) → Apart R xs × Apart R ys × AllByRecursion (λ x. AllByRecursion (R x) ys) xs
apart_split R [] ys a = (tt, a, tt)
apart_split R (x ∷ xs) ys a =
    let more = apart_split R xs ys a.1 in
    let here = all_split (R x) xs ys a.0 in
    ((here.0, more.0), more.1, (here.1, more.2))

pub all_dropped : {X : Type 0} (P : X → Type 0) (xs : List X) → AllByRecursion P xs → AllByRecursion P (drop 1 xs)
all_dropped P [] a = tt
all_dropped P (x ∷ xs) a = a.1

pub all_of_chain : (P : ℕ → Type 0) (chains : List (List ℕ)) (i : ℕ) → AllByRecursion P (joined chains) → AllByRecursion P (get_or chains i [])
all_of_chain P [] i a = tt
all_of_chain P (c ∷ cs) zero a = (all_split P c (joined cs) a).0
all_of_chain P (c ∷ cs) (suc i) a = all_of_chain P cs i (all_split P c (joined cs) a).1

pub apart_of_chain : (chains : List (List ℕ)) (i : ℕ) → Apart Differ (joined chains) → Apart Differ (get_or chains i [])
apart_of_chain [] i a = tt
apart_of_chain (c ∷ cs) zero a = (apart_split Differ c (joined cs) a).0
apart_of_chain (c ∷ cs) (suc i) a = apart_of_chain cs i (apart_split Differ c (joined cs) a).1

pub first_append : (xs ys : List ℕ) (x : ℕ) → slice_get xs 0 ≡ Some x → slice_get (xs ++ ys) 0 ≡ Some x
first_append [] ys x e = cc
first_append (y ∷ xs) ys x e = e

-- ---- edits of chains, as of their elements one after another
abbrev place_of : List (List ℕ) → ℕ → ℕ
place_of [] i = 0
place_of (c ∷ cs) zero = 0
place_of (c ∷ cs) (suc i) = length c + place_of cs i

abbrev end_of : List (List ℕ) → ℕ → ℕ
end_of [] i = 0
end_of (c ∷ cs) zero = length c
end_of (c ∷ cs) (suc i) = length c + end_of cs i

insert_past : (xs ys : List ℕ) (k s : ℕ) → insert (xs ++ ys) (length xs + k) s ≡ xs ++ insert ys k s
insert_past xs ys k s =
    let e : length xs + k - length xs ≡ k = omega arith in
    insert-append_right xs ys (length xs) (length xs + k) s refl (omega arith) ∙ ap (λ n. xs ++ insert ys n s) e

remove_past : (xs ys : List ℕ) (k : ℕ) → remove (xs ++ ys) (length xs + k) ≡ xs ++ remove ys k
remove_past xs ys k =
    let e : length xs + k - length xs ≡ k = omega arith in
    remove-append_right xs ys (length xs) (length xs + k) refl (omega arith) ∙ ap (λ n. xs ++ remove ys n) e

joined_insert : (chains : List (List ℕ)) (i s : ℕ) → joined (insert chains i (s ∷ [])) ≡ insert (joined chains) (place_of chains i) s
joined_insert [] zero s = refl
joined_insert [] (suc i) s = refl
joined_insert (c ∷ cs) zero s = refl
joined_insert (c ∷ cs) (suc i) s = ap (λ l. c ++ l) (joined_insert cs i s) ∙ sym (insert_past c (joined cs) (place_of cs i) s)

joined_push : (chains : List (List ℕ)) (i s : ℕ) → i < length chains → joined (set chains i (get_or chains i [] ++ s ∷ [])) ≡ insert (joined chains) (end_of chains i) s
joined_push [] i s lt = absurd (omega arith)
joined_push (c ∷ cs) zero s lt =
    let e : length c + 0 ≡ length c = omega arith in
    append_assoc c (s ∷ []) (joined cs) ∙ sym (insert_past c (joined cs) 0 s) ∙ ap (λ n. insert (c ++ joined cs) n s) e
joined_push (c ∷ cs) (suc i) s lt = ap (λ l. c ++ l) (joined_push cs i s (omega arith)) ∙ sym (insert_past c (joined cs) (end_of cs i) s)

joined_drop : (chains : List (List ℕ)) (i : ℕ) → 0 < length (get_or chains i []) → joined (set chains i (drop 1 (get_or chains i []))) ≡ remove (joined chains) (place_of chains i)
joined_drop [] i lt = absurd (omega arith)
joined_drop ([] ∷ cs) zero lt = absurd (omega arith)
joined_drop ((x ∷ c) ∷ cs) zero lt = refl
joined_drop (c ∷ cs) (suc i) lt = ap (λ l. c ++ l) (joined_drop cs i lt) ∙ sym (remove_past c (joined cs) (place_of cs i))

joined_gone : (chains : List (List ℕ)) (i : ℕ) → length (get_or chains i []) ≡ 1 → joined (remove chains i) ≡ remove (joined chains) (place_of chains i)
joined_gone [] i e = absurd (omega arith)
joined_gone ([] ∷ cs) zero e = absurd (omega arith)
joined_gone ((x ∷ []) ∷ cs) zero e = refl
joined_gone ((x ∷ y ∷ c) ∷ cs) zero e = absurd (omega arith)
joined_gone (c ∷ cs) (suc i) e = ap (λ l. c ++ l) (joined_gone cs i e) ∙ sym (remove_past c (joined cs) (place_of cs i))

-- ---- a chain
pub length_linked : (links : List Link) (p n : ℕ) → length (linked links p n) ≡ n
length_linked links p zero = refl
length_linked links p (suc n) =
    let o = (link_of links p).older in
    omega (arith, length_linked links o n, length-append (linked links o n) (p ∷ []))

pub last_holds : (P : ℕ → Type 0) (links : List Link) (p n : ℕ) → 0 < n → AllByRecursion P (linked links p n) → P p
last_holds P links p zero lt a = absurd (omega arith)
last_holds P links p (suc n) lt a = (all_last P (linked links (link_of links p).older n) p a).1

-- what a change of links leaves at a slot
abbrev pub AsOld : List Link → List Link → ℕ → Type 0
AsOld links links' q = (link_of links' q).older ≡ (link_of links q).older

abbrev pub AsNew : List Link → List Link → ℕ → Type 0
AsNew links links' q = (link_of links' q).newer ≡ (link_of links q).newer

abbrev pub Stays : List Link → List Link → ℕ → Type 0
Stays links links' q = link_of links' q ≡ link_of links q

stays_old : (links links' : List Link) (xs : List ℕ) → AllByRecursion (Stays links links') xs → AllByRecursion (AsOld links links') xs
stays_old links links' xs a = all_weaker (Stays links links') (AsOld links links') (λ q e. ap (λ (l : Link). l.older) e) xs a

stays_new : (links links' : List Link) (xs : List ℕ) → AllByRecursion (Stays links links') xs → AllByRecursion (AsNew links links') xs
stays_new links links' xs a = all_weaker (Stays links links') (AsNew links links') (λ q e. ap (λ (l : Link). l.newer) e) xs a

pub linked_same : (links links' : List Link) (p n : ℕ) → AllByRecursion (AsOld links links') (linked links p n) → linked links' p n ≡ linked links p n
linked_same links links' p zero a = refl
linked_same links links' p (suc n) a =
    let o = (link_of links p).older in
    let parts = all_last (AsOld links links') (linked links o n) p a in
    ap (λ l. l ++ p ∷ []) (ap (λ r. linked links' r n) parts.1 ∙ linked_same links links' o n parts.0)

follows_same : (links links' : List Link) (xs : List ℕ) → AllByRecursion (AsNew links links') xs → Follows links xs → Follows links' xs
follows_same links links' [] a f = tt
follows_same links links' (p ∷ []) a f = tt
follows_same links links' (p ∷ q ∷ rest) a f = (a.0 ∙ f.0, follows_same links links' (q ∷ rest) a.1 f.1)

follows_but_last : (links links' : List Link) (xs : List ℕ) (p : ℕ) → AllByRecursion (AsNew links links') xs → Follows links (xs ++ p ∷ []) → Follows links' (xs ++ p ∷ [])
follows_but_last links links' [] p a f = tt
follows_but_last links links' (x ∷ []) p a f = (a.0 ∙ f.0, tt)
follows_but_last links links' (x ∷ y ∷ xs) p a f = (a.0 ∙ f.0, follows_but_last links links' (y ∷ xs) p a.1 f.1)

follows_push : (links : List Link) (xs : List ℕ) (p s : ℕ) → (link_of links p).newer ≡ s → Follows links (xs ++ p ∷ []) → Follows links ((xs ++ p ∷ []) ++ s ∷ [])
follows_push links [] p s e f = (e, tt)
follows_push links (x ∷ []) p s e f = (f.0, (e, tt))
follows_push links (x ∷ y ∷ xs) p s e f = (f.0, follows_push links (y ∷ xs) p s e f.1)

follows_drop : (links : List Link) (xs : List ℕ) → Follows links xs → Follows links (drop 1 xs)
follows_drop links [] f = tt
follows_drop links (p ∷ []) f = tt
follows_drop links (p ∷ q ∷ rest) f = f.1

second_of : (links : List Link) (xs : List ℕ) (m : ℕ) → Follows links xs → 1 < length xs → slice_get xs 0 ≡ Some m → slice_get (drop 1 xs) 0 ≡ Some (link_of links m).newer
second_of links [] m f lt e = absurd (omega arith)
second_of links (a ∷ []) m f lt e = absurd (omega arith)
second_of links (a ∷ b ∷ c) m f lt e = let same : a ≡ m = cc in ap Some (sym f.0 ∙ ap (λ q. (link_of links q).newer) same)

pub drop_linked : (links : List Link) (p n : ℕ) → drop 1 (linked links p (suc n)) ≡ linked links p n
drop_linked links p zero = refl
drop_linked links p (suc n) =
    let o = (link_of links p).older in
    drop-append-le 1 (linked links o (suc n)) (p ∷ []) (omega (arith, length_linked links o (suc n))) ∙ ap (λ l. l ++ p ∷ []) (drop_linked links o n)

chain_same : (links links' : List Link) (p : ℕ) → 0 < (link_of links p).height → AllByRecursion (Stays links links') (chain_of links p) → chain_of links' p ≡ chain_of links p
chain_same links links' p lt a =
    let h = (link_of links p).height in
    let top = last_holds (Stays links links') links p h lt a in
    ap (λ (l : Link). linked links' p l.height) top ∙ linked_same links links' p h (stays_old links links' (chain_of links p) a)

is_chain_same : (links links' : List Link) (p : ℕ) → IsLinked links p → AllByRecursion (Stays links links') (chain_of links p) → IsLinked links' p
is_chain_same links links' p c a =
    let top = last_holds (Stays links links') links p (link_of links p).height c.some a in
    let same = chain_same links links' p c.some a in
    record {
      some = subst (λ (l : Link). 0 < l.height) (sym top) c.some;
      follows = subst (Follows links') (sym same) (follows_same links links' (chain_of links p) (stays_new links links' (chain_of links p) a) c.follows);
      round = ap (λ l. slice_get l 0) same ∙ c.round ∙ ap (λ (l : Link). Some l.newer) (sym top);
    }

-- ---- chains
pub chains_same : (links links' : List Link) (ps : List ℕ) → AllByRecursion (IsLinked links) ps → AllByRecursion (Stays links links') (joined (map (chain_of links) ps)) → map (chain_of links') ps ≡ map (chain_of links) ps
chains_same links links' [] c a = refl
chains_same links links' (p ∷ ps) c a =
    let parts = all_split (Stays links links') (chain_of links p) (joined (map (chain_of links) ps)) a in
    ap₂ (λ x y. x ∷ y) (chain_same links links' p c.0.some parts.0) (chains_same links links' ps c.1 parts.1)

pub are_chains_same : (links links' : List Link) (ps : List ℕ) → AllByRecursion (IsLinked links) ps → AllByRecursion (Stays links links') (joined (map (chain_of links) ps)) → AllByRecursion (IsLinked links') ps
are_chains_same links links' [] c a = tt
are_chains_same links links' (p ∷ ps) c a =
    let parts = all_split (Stays links links') (chain_of links p) (joined (map (chain_of links) ps)) a in
    (is_chain_same links links' p c.0 parts.0, are_chains_same links links' ps c.1 parts.1)

pub newest_holds : (P : ℕ → Type 0) (links : List Link) (ps : List ℕ) (i : ℕ) → i < length ps → AllByRecursion (IsLinked links) ps → AllByRecursion P (joined (map (chain_of links) ps)) → P (get_or ps i 0)
newest_holds P links [] i lt c a = absurd (omega arith)
newest_holds P links (p ∷ ps) zero lt c a = last_holds P links p (link_of links p).height c.0.some (all_split P (chain_of links p) (joined (map (chain_of links) ps)) a).0
newest_holds P links (p ∷ ps) (suc i) lt c a = newest_holds P links ps i (omega arith) c.1 (all_split P (chain_of links p) (joined (map (chain_of links) ps)) a).1

-- all links stay but those of the newest slot of one chain, and that chain ends with another slot
pub record IsSet (links links' : List Link) (ps : List ℕ) (i p : ℕ) : Type 0 where
  pub each : AllByRecursion (IsLinked links') (set ps i p)
  pub chains : map (chain_of links') (set ps i p) ≡ set (map (chain_of links) ps) i (chain_of links' p)

chains_set : (links links' : List Link) (ps : List ℕ) (i p : ℕ) → i < length ps → AllByRecursion (IsLinked links) ps → Apart Differ (joined (map (chain_of links) ps))
    → AllByRecursion (λ q. Differ q (get_or ps i 0) → Stays links links' q) (joined (map (chain_of links) ps)) → IsLinked links' p → IsSet links links' ps i p
chains_set links links' [] i p lt c a s is = absurd (omega arith)
chains_set links links' (r ∷ ps) zero p lt c a s is =
    let rest = joined (map (chain_of links) ps) in
    let here = chain_of links r in
    let ne = last_holds (λ x. AllByRecursion (Differ x) rest) links r (link_of links r).height c.0.some (apart_split Differ here rest a).2 in
    let parts = all_split (λ q. Differ q r → Stays links links' q) here rest s in
    let stays = all_both (Differ r) (λ q. Differ q r → Stays links links' q) (Stays links links') (λ q n f. f (λ e. n (sym e))) rest ne parts.1 in
    record { each = (is, are_chains_same links links' ps c.1 stays); chains = ap (λ l. chain_of links' p ∷ l) (chains_same links links' ps c.1 stays) }
chains_set links links' (r ∷ ps) (suc i) p lt c a s is =
    let rest = joined (map (chain_of links) ps) in
    let here = chain_of links r in
    let top = get_or ps i 0 in
    let apart = apart_split Differ here rest a in
    let parts = all_split (λ q. Differ q top → Stays links links' q) here rest s in
    let ne = all_weaker (λ x. AllByRecursion (Differ x) rest) (λ x. Differ x top) (λ x h. newest_holds (Differ x) links ps i (omega arith) c.1 h) here apart.2 in
    let stays = all_both (λ q. Differ q top) (λ q. Differ q top → Stays links links' q) (Stays links links') (λ q n f. f n) here ne parts.0 in
    let more = chains_set links links' ps i p (omega arith) c.1 apart.1 parts.1 is in
    record { each = (is_chain_same links links' r c.0 stays, more.each); chains = ap₂ (λ x y. x ∷ y) (chain_same links links' r c.0.some stays) more.chains }

-- ---- reads
newest_linked : (links : List Link) (p n : ℕ) → 0 < n → newest_of (linked links p n) ≡ Some p
newest_linked links p zero lt = absurd (omega arith)
newest_linked links p (suc n) lt =
    let o = (link_of links p).older in
    let xs = linked links o n in
    let long = length-append xs (p ∷ []) in
    let e : length (xs ++ p ∷ []) - 1 ≡ length xs = omega (arith, long) in
    ap (λ k. slice_get (xs ++ p ∷ []) k) e ∙ slice_get-get_or (xs ++ p ∷ []) (length xs) p (omega (arith, long)) ∙ ap Some (get_or_push xs p p (length xs) refl)

pub newest_are : (links : List Link) (ps : List ℕ) → AllByRecursion (IsLinked links) ps → all_newest (map (chain_of links) ps) ≡ ps
newest_are links [] c = refl
newest_are links (p ∷ ps) c =
    ap (λ o. cons_option o (all_newest (map (chain_of links) ps))) (newest_linked links p (link_of links p).height c.0.some) ∙ ap (λ l. p ∷ l) (newest_are links ps c.1)

-- a chain, as a call reads it
pub record IsRead (links : List Link) (ps : List ℕ) (chains : List (List ℕ)) (i p : ℕ) : Type 0 where
  pub within : i < length ps
  pub read : p ≡ get_or ps i 0
  pub seen : get_or chains i [] ≡ chain_of links p
  pub chain : IsLinked links p
  pub apart : Apart Differ (chain_of links p)
  pub all : AllByRecursion (λ q. q < length links) (chain_of links p)
  pub newest : newest_of (get_or chains i []) ≡ Some p
  pub long : length (get_or chains i []) ≡ (link_of links p).height
  pub bound : p < length links
  pub oldest : (link_of links p).newer < length links

holds_first : (P : ℕ → Type 0) (xs : List ℕ) (x : ℕ) → slice_get xs 0 ≡ Some x → AllByRecursion P xs → P x
holds_first P [] x e a = cc
holds_first P (y ∷ xs) x e a = let same : y ≡ x = cc in subst P same a.0

pub chain_read : (links : List Link) (ps : List ℕ) (chains : List (List ℕ)) (i p : ℕ) → AreLinked links ps → map (chain_of links) ps ≡ chains → i < length chains → p ≡ get_or ps i p → IsRead links ps chains i p
chain_read links ps chains i p are is lt e =
    let within : i < length ps = omega (arith, lt, ap length is, length-map ps (chain_of links)) in
    let read : p ≡ get_or ps i 0 = get_or_read ps i p within e 0 in
    let at : get_or (map (chain_of links) ps) i [] ≡ chain_of links p = get_or-map (chain_of links) ps i 0 [] within ∙ ap (chain_of links) (sym read) in
    let seen : get_or chains i [] ≡ chain_of links p = ap (λ l. get_or l i []) (sym is) ∙ at in
    let chain : IsLinked links p = subst (IsLinked links) (sym read) (all_at (IsLinked links) ps i 0 within are.each) in
    let all = subst (AllByRecursion (λ q. q < length links)) at (all_of_chain (λ q. q < length links) (map (chain_of links) ps) i are.within) in
    record {
      within = within;
      read = read;
      seen = seen;
      chain = chain;
      apart = subst (Apart Differ) at (apart_of_chain (map (chain_of links) ps) i are.apart);
      all = all;
      newest = ap newest_of seen ∙ newest_linked links p (link_of links p).height chain.some;
      long = ap length seen ∙ length_linked links p (link_of links p).height;
      bound = last_holds (λ q. q < length links) links p (link_of links p).height chain.some all;
      oldest = holds_first (λ q. q < length links) (chain_of links p) (link_of links p).newer chain.round all;
    }

pub link_read : (links : List Link) (p : ℕ) (l : Link) → p < length links → l ≡ get_or links p l → l ≡ link_of links p
link_read links p l lt e = get_or_read links p l lt e (record { older = 0; newer = 0; height = 0 })

pub chain_oldest : (links : List Link) (ps : List ℕ) (chains : List (List ℕ)) (i p : ℕ) → IsRead links ps chains i p → slice_get (get_or chains i []) 0 ≡ Some (link_of links p).newer
chain_oldest links ps chains i p r = ap (λ l. slice_get l 0) r.seen ∙ r.chain.round

pub length_newest : (links : List Link) (ps : List ℕ) (chains : List (List ℕ)) → map (chain_of links) ps ≡ chains → length ps ≡ length chains
length_newest links ps chains is = sym (length-map ps (chain_of links)) ∙ ap length is

-- ---- writes
-- chains after a change of the links
pub record AreNow (links : List Link) (ps : List ℕ) (chains : List (List ℕ)) : Type 0 where
  pub are : AreLinked links ps
  pub seen : map (chain_of links) ps ≡ chains

-- a chain whose newest slot is the last of a list of them
record IsTopped (links : List Link) (p : ℕ) (xs : List ℕ) : Type 0 where
  ends : chain_of links p ≡ xs ++ p ∷ []
  differ : AllByRecursion (λ q. Differ q p) xs

topped : (links : List Link) (p n : ℕ) → (link_of links p).height ≡ suc n → Apart Differ (chain_of links p) → IsTopped links p (linked links (link_of links p).older n)
topped links p n e a =
    let xs = linked links (link_of links p).older n in
    let ends : chain_of links p ≡ xs ++ p ∷ [] = ap (linked links p) e in
    record {
      ends = ends;
      differ = all_weaker (λ x. AllByRecursion (Differ x) (p ∷ [])) (λ q. Differ q p) (λ x h. h.0) xs (apart_split Differ xs (p ∷ []) (subst (Apart Differ) ends a)).2;
    }

-- a chain with a slot behind its newest one
record IsOne (links : List Link) (p : ℕ) (chain : List ℕ) : Type 0 where
  is : IsLinked links p
  seen : chain_of links p ≡ chain

push_one : (links links' : List Link) (p s n : ℕ) → (link_of links p).height ≡ suc n → IsLinked links p → Apart Differ (chain_of links p) → AllByRecursion (λ q. Differ q s) (chain_of links p)
    → ((q : ℕ) → Differ q p → Differ q s → Stays links links' q) → AsOld links links' p → (link_of links' p).newer ≡ s
    → link_of links' s ≡ record { older = p; newer = (link_of links p).newer; height = (link_of links p).height + 1 } → IsOne links' s (chain_of links p ++ s ∷ [])
push_one links links' p s n high c apart fresh stays old new here =
    let xs = linked links (link_of links p).older n in
    let top = topped links p n high apart in
    let others = all_split (λ q. Differ q s) xs (p ∷ []) (subst (AllByRecursion (λ q. Differ q s)) top.ends fresh) in
    let same = all_both (λ q. Differ q p) (λ q. Differ q s) (Stays links links') (λ q d e. stays q d e) xs top.differ others.0 in
    let height : (link_of links' s).height ≡ suc (suc n) = ap (λ (l : Link). l.height) here ∙ omega (arith, high) in
    let chain : chain_of links' s ≡ chain_of links p ++ s ∷ [] =
    ap (linked links' s) height
    ∙ ap (λ r. linked links' r (suc n) ++ s ∷ []) (ap (λ (l : Link). l.older) here)
    ∙ ap (λ l. l ++ s ∷ []) (linked_same links links' p (suc n) (all_append (AsOld links links') xs (p ∷ []) (stays_old links links' xs same) (old, tt)) ∙ sym top.ends) in
    record {
      is = record {
        some = omega (arith, height);
        follows = subst (Follows links') (sym chain)
            (subst (λ l. Follows links' (l ++ s ∷ [])) (sym top.ends) (follows_push links' xs p s new (follows_but_last links links' xs p (stays_new links links' xs same) (subst (Follows links) top.ends c.follows))));
        round = ap (λ l. slice_get l 0) chain ∙ first_append (chain_of links p) (s ∷ []) (link_of links p).newer c.round ∙ ap (λ (l : Link). Some l.newer) (sym here);
      };
      seen = chain;
    }

-- a chain without its oldest slot
shorten_one : (links links' : List Link) (p n : ℕ) → (link_of links p).height ≡ suc (suc n) → IsLinked links p → Apart Differ (chain_of links p)
    → ((q : ℕ) → Differ q p → Stays links links' q) → link_of links' p ≡ record { older = (link_of links p).older; newer = (link_of links (link_of links p).newer).newer; height = suc n } → IsOne links' p (drop 1 (chain_of links p))
shorten_one links links' p n high c apart stays here =
    let o = (link_of links p).older in
    let xs = linked links o (suc n) in
    let ys = linked links o n in
    let top = topped links p (suc n) high apart in
    let differ = subst (AllByRecursion (λ q. Differ q p)) (drop_linked links o n) (all_dropped (λ q. Differ q p) xs top.differ) in
    let same = all_weaker (λ q. Differ q p) (Stays links links') (λ q d. stays q d) ys differ in
    let rest : drop 1 (chain_of links p) ≡ ys ++ p ∷ [] = ap (λ k. drop 1 (linked links p k)) high ∙ drop_linked links p (suc n) in
    let chain : chain_of links' p ≡ drop 1 (chain_of links p) =
    ap (λ (l : Link). linked links' p l.height) here
    ∙ linked_same links links' p (suc n) (all_append (AsOld links links') ys (p ∷ []) (stays_old links links' ys same) (ap (λ (l : Link). l.older) here, tt))
    ∙ sym rest in
    let long = length_linked links p (link_of links p).height in
    record {
      is = record {
        some = omega (arith, ap (λ (l : Link). l.height) here);
        follows = subst (Follows links') (sym (chain ∙ rest))
            (follows_but_last links links' ys p (stays_new links links' ys same) (subst (Follows links) rest (follows_drop links (chain_of links p) c.follows)));
        round = ap (λ l. slice_get l 0) chain ∙ second_of links (chain_of links p) (link_of links p).newer c.follows (omega (arith, long, high)) c.round ∙ ap (λ (l : Link). Some l.newer) (sym here);
      };
      seen = chain;
    }

pub pushed : (links links' : List Link) (ps : List ℕ) (i p s : ℕ) → AreLinked links ps → p ≡ get_or ps i 0 → i < length ps → s < length links → AllByRecursion (λ q. Differ q s) (joined (map (chain_of links) ps))
    → length links' ≡ length links → ((q : ℕ) → Differ q p → Differ q s → Stays links links' q) → AsOld links links' p → (link_of links' p).newer ≡ s
    → link_of links' s ≡ record { older = p; newer = (link_of links p).newer; height = (link_of links p).height + 1 }
    → AreNow links' (set ps i s) (set (map (chain_of links) ps) i (get_or (map (chain_of links) ps) i [] ++ s ∷ []))
pushed links links' ps i p s are at lt less fresh long stays old new here =
    let chains = map (chain_of links) ps in
    let seen : get_or chains i [] ≡ chain_of links p = get_or-map (chain_of links) ps i 0 [] lt ∙ ap (chain_of links) (sym at) in
    let c : IsLinked links p = subst (IsLinked links) (sym at) (all_at (IsLinked links) ps i 0 lt are.each) in
    let high : (link_of links p).height ≡ suc ((link_of links p).height - 1) = omega (arith, c.some) in
    let one = push_one links links' p s ((link_of links p).height - 1) high c (subst (Apart Differ) seen (apart_of_chain chains i are.apart)) (subst (AllByRecursion (λ q. Differ q s)) seen (all_of_chain (λ q. Differ q s) chains i fresh))
    stays old new here in
    let others = all_weaker (λ q. Differ q s) (λ q. Differ q (get_or ps i 0) → Stays links links' q) (λ q e d. stays q (λ f. d (f ∙ at)) e) (joined chains) fresh in
    let now = chains_set links links' ps i s lt are.each are.apart others one.is in
    let is : map (chain_of links') (set ps i s) ≡ set chains i (get_or chains i [] ++ s ∷ []) = now.chains ∙ ap (λ l. set chains i l) (one.seen ∙ ap (λ l. l ++ s ∷ []) (sym seen)) in
    let all : joined (map (chain_of links') (set ps i s)) ≡ insert (joined chains) (end_of chains i) s = ap joined is ∙ joined_push chains i s (omega (arith, lt, length-map ps (chain_of links))) in
    record {
      are = record {
        each = now.each;
        apart = subst (Apart Differ) (sym all) (apart_insert (joined chains) (end_of chains i) s fresh are.apart);
        within = subst (AllByRecursion (λ q. q < length links')) (sym all) (subst (λ k. AllByRecursion (λ q. q < k) (insert (joined chains) (end_of chains i) s)) (sym long) (all_insert (λ q. q < length links) (joined chains) (end_of chains i) s less are.within));
      };
      seen = is;
    }

set_same : (ps : List ℕ) (i p : ℕ) → p ≡ get_or ps i 0 → i < length ps → set ps i p ≡ ps
set_same [] i p e lt = absurd (omega arith)
set_same (q ∷ ps) zero p e lt = ap (λ r. r ∷ ps) e
set_same (q ∷ ps) (suc i) p e lt = ap (λ l. q ∷ l) (set_same ps i p e (omega arith))

pub lowered : (links links' : List Link) (ps : List ℕ) (i p n : ℕ) → AreLinked links ps → p ≡ get_or ps i 0 → i < length ps → (link_of links p).height ≡ suc (suc n)
    → length links' ≡ length links → ((q : ℕ) → Differ q p → Stays links links' q)
    → link_of links' p ≡ record { older = (link_of links p).older; newer = (link_of links (link_of links p).newer).newer; height = suc n }
    → AreNow links' ps (set (map (chain_of links) ps) i (drop 1 (get_or (map (chain_of links) ps) i [])))
lowered links links' ps i p n are at lt high long stays here =
    let chains = map (chain_of links) ps in
    let seen : get_or chains i [] ≡ chain_of links p = get_or-map (chain_of links) ps i 0 [] lt ∙ ap (chain_of links) (sym at) in
    let c : IsLinked links p = subst (IsLinked links) (sym at) (all_at (IsLinked links) ps i 0 lt are.each) in
    let one = shorten_one links links' p n high c (subst (Apart Differ) seen (apart_of_chain chains i are.apart)) stays here in
    let others = all_weaker (λ q. q < length links) (λ q. Differ q (get_or ps i 0) → Stays links links' q) (λ q _ d. stays q (λ f. d (f ∙ at))) (joined chains) are.within in
    let now = chains_set links links' ps i p lt are.each are.apart others one.is in
    let same = set_same ps i p at lt in
    let is : map (chain_of links') ps ≡ set chains i (drop 1 (get_or chains i [])) = ap (map (chain_of links')) (sym same) ∙ now.chains ∙ ap (λ l. set chains i l) (one.seen ∙ ap (drop 1) (sym seen)) in
    let tall = ap length seen ∙ length_linked links p (link_of links p).height in
    let all : joined (map (chain_of links') ps) ≡ remove (joined chains) (place_of chains i) = ap joined is ∙ joined_drop chains i (omega (arith, tall, high)) in
    record {
      are = record {
        each = subst (AllByRecursion (IsLinked links')) same now.each;
        apart = subst (Apart Differ) (sym all) (apart_remove Differ (joined chains) (place_of chains i) are.apart);
        within = subst (AllByRecursion (λ q. q < length links')) (sym all) (subst (λ k. AllByRecursion (λ q. q < k) (remove (joined chains) (place_of chains i))) (sym long) (all_remove (λ q. q < length links) (joined chains) (place_of chains i) are.within));
      };
      seen = is;
    }

map_remove : (f : ℕ → List ℕ) (ps : List ℕ) (i : ℕ) → map f (remove ps i) ≡ remove (map f ps) i
map_remove f [] zero = refl
map_remove f [] (suc i) = refl
map_remove f (p ∷ ps) zero = refl
map_remove f (p ∷ ps) (suc i) = ap (λ l. f p ∷ l) (map_remove f ps i)

map_insert : (f : ℕ → List ℕ) (ps : List ℕ) (i p : ℕ) → map f (insert ps i p) ≡ insert (map f ps) i (f p)
map_insert f ps zero p = refl
map_insert f [] (suc i) p = refl
map_insert f (q ∷ ps) (suc i) p = ap (λ l. f q ∷ l) (map_insert f ps i p)

pub gone : (links : List Link) (ps : List ℕ) (i p : ℕ) → AreLinked links ps → p ≡ get_or ps i 0 → i < length ps → (link_of links p).height ≡ 1 → AreNow links (remove ps i) (remove (map (chain_of links) ps) i)
gone links ps i p are at lt high =
    let chains = map (chain_of links) ps in
    let seen : get_or chains i [] ≡ chain_of links p = get_or-map (chain_of links) ps i 0 [] lt ∙ ap (chain_of links) (sym at) in
    let tall : length (get_or chains i []) ≡ 1 = ap length seen ∙ length_linked links p (link_of links p).height ∙ high in
    let is = map_remove (chain_of links) ps i in
    let all : joined (map (chain_of links) (remove ps i)) ≡ remove (joined chains) (place_of chains i) = ap joined is ∙ joined_gone chains i tall in
    record {
      are = record {
        each = all_remove (IsLinked links) ps i are.each;
        apart = subst (Apart Differ) (sym all) (apart_remove Differ (joined chains) (place_of chains i) are.apart);
        within = subst (AllByRecursion (λ q. q < length links)) (sym all) (all_remove (λ q. q < length links) (joined chains) (place_of chains i) are.within);
      };
      seen = is;
    }

-- a chain of one slot more
pub entered : (links links' : List Link) (ps : List ℕ) (i s : ℕ) → AreLinked links ps → s < length links → AllByRecursion (λ q. Differ q s) (joined (map (chain_of links) ps))
    → length links' ≡ length links → ((q : ℕ) → Differ q s → Stays links links' q) → link_of links' s ≡ record { older = s; newer = s; height = 1 }
    → AreNow links' (insert ps i s) (insert (map (chain_of links) ps) i (s ∷ []))
entered links links' ps i s are less fresh long stays here =
    let chains = map (chain_of links) ps in
    let same = all_weaker (λ q. Differ q s) (Stays links links') stays (joined chains) fresh in
    let alone : chain_of links' s ≡ s ∷ [] = ap (λ (l : Link). linked links' s l.height) here in
    let c : IsLinked links' s = record {
      some = omega (arith, ap (λ (l : Link). l.height) here);
      follows = subst (Follows links') (sym alone) tt;
      round = ap (λ l. slice_get l 0) alone ∙ ap (λ (l : Link). Some l.newer) (sym here);
    } in
    let is : map (chain_of links') (insert ps i s) ≡ insert chains i (s ∷ []) = map_insert (chain_of links') ps i s ∙ ap₂ (λ l x. insert l i x) (chains_same links links' ps are.each same) alone in
    let all : joined (map (chain_of links') (insert ps i s)) ≡ insert (joined chains) (place_of chains i) s = ap joined is ∙ joined_insert chains i s in
    record {
      are = record {
        each = all_insert (IsLinked links') ps i s c (are_chains_same links links' ps are.each same);
        apart = subst (Apart Differ) (sym all) (apart_insert (joined chains) (place_of chains i) s fresh are.apart);
        within = subst (AllByRecursion (λ q. q < length links')) (sym all) (subst (λ k. AllByRecursion (λ q. q < k) (insert (joined chains) (place_of chains i) s)) (sym long) (all_insert (λ q. q < length links) (joined chains) (place_of chains i) s less are.within));
      };
      seen = is;
    }

-- links of slots more
pub more_links : (links more : List Link) (ps : List ℕ) → AreLinked links ps → AreNow (links ++ more) ps (map (chain_of links) ps)
more_links links more ps are =
    let chains = map (chain_of links) ps in
    let no_link : Link = record { older = 0; newer = 0; height = 0 } in
    let same = all_weaker (λ q. q < length links) (Stays links (links ++ more)) (λ q lt. get_or_append_left links more no_link q lt) (joined chains) are.within in
    let is = chains_same links (links ++ more) ps are.each same in
    let long = length-append links more in
    record {
      are = record {
        each = are_chains_same links (links ++ more) ps are.each same;
        apart = subst (λ l. Apart Differ (joined l)) (sym is) are.apart;
        within = subst (λ l. AllByRecursion (λ q. q < length (links ++ more)) (joined l)) (sym is) (all_weaker (λ q. q < length links) (λ q. q < length (links ++ more)) (λ q lt. omega (arith, lt, long)) (joined chains) are.within);
      };
      seen = is;
    }

-- ---- the newest one that passes
pub last_passes : (p : ℕ → Bool) (xs : List ℕ) (x : ℕ) → p x ≡ true → newest_that p (xs ++ x ∷ []) ≡ Some x
last_passes p [] x e = ap (λ b. later_or None b x) e
last_passes p (y ∷ xs) x e = ap (λ o. later_or o (p y) y) (last_passes p xs x e)

pub last_fails : (p : ℕ → Bool) (xs : List ℕ) (x : ℕ) → p x ≡ false → newest_that p (xs ++ x ∷ []) ≡ newest_that p xs
last_fails p [] x e = ap (λ b. later_or None b x) e
last_fails p (y ∷ xs) x e = ap (λ o. later_or o (p y) y) (last_fails p xs x e)

-- a look from the newest slot on, with so many slots left
pub passes_here : (links : List Link) (t : ℕ → Bool) (slot left : ℕ) → 0 < left → t slot ≡ true → newest_that t (linked links slot left) ≡ Some slot
passes_here links t slot zero lt e = absurd (omega arith)
passes_here links t slot (suc n) lt e = last_passes t (linked links (link_of links slot).older n) slot e

pub fails_here : (links : List Link) (t : ℕ → Bool) (slot left : ℕ) → 0 < left → t slot ≡ false → newest_that t (linked links slot left) ≡ newest_that t (linked links (link_of links slot).older (left - 1))
fails_here links t slot zero lt e = absurd (omega arith)
fails_here links t slot (suc n) lt e =
    let o = (link_of links slot).older in
    let less : n ≡ suc n - 1 = omega arith in
    last_fails t (linked links o n) slot e ∙ ap (λ k. newest_that t (linked links o k)) less

pub within_rest : (P : ℕ → Type 0) (links : List Link) (slot left : ℕ) → 0 < left → AllByRecursion P (linked links slot left) → AllByRecursion P (linked links (link_of links slot).older (left - 1))
within_rest P links slot zero lt a = absurd (omega arith)
within_rest P links slot (suc n) lt a =
    let o = (link_of links slot).older in
    let less : n ≡ suc n - 1 = omega arith in
    subst (λ k. AllByRecursion P (linked links o k)) less (all_last P (linked links o n) slot a).0

pub none_left : (links : List Link) (t : ℕ → Bool) (slot left : ℕ) → left ≤ 0 → newest_that t (linked links slot left) ≡ None
none_left links t slot zero le = refl
none_left links t slot (suc n) le = absurd (omega arith)
