-- Noting words keeps what is known of those found before.
use Rattle.std.proofs.Common.{◌≡◌, ◌≢◌, ℕ, ◌+◌, ◌<◌, ◌≤◌, ◌⊎◌, inl, inr, Bool, true, false, cond, List, [], ◌∷◌, ◌++◌, length, Contains, Option, Some, None, is_none, refl, sym, ap, ◌∙◌, subst, arith, if◌then◌else◌}
use Rattle.std.proofs.lemmas.List.{length-set, get_or-set_same, get_or-set_other, length-append, append-nil, length_push}
use Rattle.std.proofs.lemmas.List.Elements.{Contains-append_left, Contains-push, Contains-push_cases}
use Rattle.std.proofs.lemmas.List.Sums.{sum_by-set}
use Rattle.std.proofs.lemmas.Bool.{cases_eq}
use Rattle.std.proofs.lemmas.Bool.Decides.{nat_tests}
use Rattle.std.specs.Ordering.{is_gt}
use Rattle.pv_glob.specs.declared.moves.Move.{Move}
use Rattle.pv_glob.specs.Machines.{Machine, goes_by}
use Rattle.pv_glob.specs.Search.{Found, word_at, unfound, earlier, noted, listed, Leads, HasUpTo, Ahead, Noted}
use Rattle.pv_glob.specs.Words.{rank, shortlex}
use Rattle.pv_glob.proofs.Shortlex.{same_is_first, first_trans, other_is_first, shorter_is_first, lesser_follows}

-- ---- the earlier one of two words

-- it comes no later than the other
pub earlier_upto : (old : Option (List ℕ)) (word : List ℕ) → is_gt (shortlex (earlier old word) word) ≡ false
earlier_upto None word = same_is_first word
earlier_upto (Some old) word = by (is_gt (shortlex old word)) refl
  where
    by : (t : Bool) → is_gt (shortlex old word) ≡ t → is_gt (shortlex (if t then word else old) word) ≡ false
    by true e = same_is_first word
    by false e = e

-- it comes no later than the first
pub earlier_keeps : (old word : List ℕ) → is_gt (shortlex (earlier (Some old) word) old) ≡ false
earlier_keeps old word = by (is_gt (shortlex old word)) refl
  where
    by : (t : Bool) → is_gt (shortlex old word) ≡ t → is_gt (shortlex (if t then word else old) old) ≡ false
    by true e = other_is_first old word e
    by false e = same_is_first old

-- a shorter word stays
pub shorter_stays : (old word : List ℕ) → length old < length word → earlier (Some old) word ≡ old
shorter_stays old word l = ap (λ (t : Bool). if t then word else old) (shorter_is_first old word l)

-- it is one of the two
pub earlier_cases : (old word : List ℕ) → (earlier (Some old) word ≡ word) ⊎ (earlier (Some old) word ≡ old)
earlier_cases old word = by (is_gt (shortlex old word))
  where
    by : (t : Bool) → ((if t then word else old) ≡ word) ⊎ ((if t then word else old) ≡ old)
    by true = inl refl
    by false = inr refl

-- ---- one word

abbrev tally : Option (List ℕ) → ℕ
tally o = cond (is_none o) 1 0

module _ (found : Found) (at : ℕ) (word : List ℕ) (inside : at < length found) where
  here : word_at (noted found at word) at ≡ Some (earlier (word_at found at) word)
  here = get_or-set_same found at (Some (earlier (word_at found at) word)) None inside

  there : (q : ℕ) → q ≢ at → word_at (noted found at word) q ≡ word_at found q
  there q other = get_or-set_other found at q (Some (earlier (word_at found at) word)) None other

  pub noted_here : HasUpTo (noted found at word) at word
  noted_here = (earlier (word_at found at) word, here, earlier_upto (word_at found at) word)

  pub noted_keeps : (q : ℕ) (ranks : List ℕ) → HasUpTo found q ranks → HasUpTo (noted found at word) q ranks
  noted_keeps q ranks h = by (cases_eq q at)
    where
      by : (q ≡ at) ⊎ (q ≡ at → ⊥) → HasUpTo (noted found at word) q ranks
      by (inl e) =
          let was : word_at found at ≡ Some h.0 = ap (word_at found) (sym e) ∙ h.1 in (
            earlier (Some h.0) word,
            ap (word_at (noted found at word)) e ∙ here ∙ ap (λ (o : Option (List ℕ)). Some (earlier o word)) was,
            first_trans (earlier (Some h.0) word) h.0 ranks (earlier_keeps h.0 word) h.2,
          )
      by (inr n) = (h.0, there q n ∙ h.1, h.2)

  pub unfound-noted : (next : List ℕ) → unfound (noted found at word) + length (listed found next at) ≡ unfound found + length next
  unfound-noted next = by (word_at found at) refl
    where
      by : (old : Option (List ℕ)) → word_at found at ≡ old → unfound (noted found at word) + length (listed found next at) ≡ unfound found + length next
      by None e =
          let counted = sum_by-set tally found at (Some (earlier (word_at found at) word)) None inside in
          let one : ◌≡◌ {A = ℕ} (cond (is_none (word_at found at)) 1 0) 1 = ap (λ (o : Option (List ℕ)). tally o) e in
          let long : length (listed found next at) ≡ length next + 1 = ap (λ (o : Option (List ℕ)). length (next ++ (if is_none o then at ∷ [] else []))) e ∙ length_push next at in
          omega (arith, counted, one, long)
      by (Some old) e =
          let counted = sum_by-set tally found at (Some (earlier (word_at found at) word)) None inside in
          let none : ◌≡◌ {A = ℕ} (cond (is_none (word_at found at)) 1 0) 0 = ap (λ (o : Option (List ℕ)). tally o) e in
          let long : length (listed found next at) ≡ length next = ap (λ (o : Option (List ℕ)). length (next ++ (if is_none o then at ∷ [] else []))) e ∙ ap length (append-nil next) in
          omega (arith, counted, none, long)

  -- a place without a word is listed
  listed_new : (next : List ℕ) → word_at found at ≡ None → Contains (listed found next at) at
  listed_new next e = subst (λ (o : Option (List ℕ)). Contains (next ++ (if is_none o then at ∷ [] else [])) at) (sym e) (Contains-push next at)

  -- what is listed was listed before, or is the place, which had no word
  listed_cases : (next : List ℕ) (q : ℕ) → Contains (listed found next at) q → Contains next q ⊎ ((at ≡ q) × (word_at found at ≡ None))
  listed_cases next q h = by (word_at found at) refl
    where
      by : (old : Option (List ℕ)) → word_at found at ≡ old → Contains next q ⊎ ((at ≡ q) × (word_at found at ≡ None))
      by None e =
          let pushed : Contains (next ++ at ∷ []) q = subst (λ (o : Option (List ℕ)). Contains (next ++ (if is_none o then at ∷ [] else [])) q) e h in
          elim (Contains-push_cases next at q pushed) [ inl c ↦ inl c | inr c ↦ inr (c, e) ]
      by (Some old) e =
          let same : Contains (next ++ []) q = subst (λ (o : Option (List ℕ)). Contains (next ++ (if is_none o then at ∷ [] else [])) q) e h in
          inl (subst (λ (xs : List ℕ). Contains xs q) (append-nil next) same)

  module _ (machine : Machine) (depth : ℕ) (from : Found) (next : List ℕ) (ahead : Ahead machine depth from found next)
      (short : (q : ℕ) (ranks : List ℕ) → word_at from q ≡ Some ranks → length ranks ≤ depth) (long : length word ≡ depth + 1) (leads : Leads machine word at) where
    keeps : (q : ℕ) (ranks : List ℕ) → word_at from q ≡ Some ranks → word_at (noted found at word) q ≡ Some ranks
    keeps q ranks e = by (cases_eq q at)
      where
        by : (q ≡ at) ⊎ (q ≡ at → ⊥) → word_at (noted found at word) q ≡ Some ranks
        by (inl s) =
            let was : word_at found at ≡ Some ranks = ap (word_at found) (sym s) ∙ ahead.keeps q ranks e in
            let less : length ranks < length word = let l = short q ranks e in omega (arith, l, long) in
            ap (word_at (noted found at word)) s ∙ here ∙ ap (λ (o : Option (List ℕ)). Some (earlier o word)) was ∙ ap Some (shorter_stays ranks word less)
        by (inr n) = there q n ∙ ahead.keeps q ranks e

    more : (q : ℕ) (ranks : List ℕ) → (word_at from q ≡ Some ranks) ⊎ ((length ranks ≡ depth + 1) × Leads machine ranks q × Contains next q)
        → (word_at from q ≡ Some ranks) ⊎ ((length ranks ≡ depth + 1) × Leads machine ranks q × Contains (listed found next at) q)
    more q ranks (inl e) = inl e
    more q ranks (inr h) = inr (h.0, h.1, Contains-append_left next (if is_none (word_at found at) then at ∷ [] else []) q h.2)

    fresh_here : (ranks : List ℕ) → Some (earlier (word_at found at) word) ≡ Some ranks
        → (word_at from at ≡ Some ranks) ⊎ ((length ranks ≡ depth + 1) × Leads machine ranks at × Contains (listed found next at) at)
    fresh_here ranks e = by (word_at found at) refl
      where
        is_word : earlier (word_at found at) word ≡ word → Contains (listed found next at) at
            → (word_at from at ≡ Some ranks) ⊎ ((length ranks ≡ depth + 1) × Leads machine ranks at × Contains (listed found next at) at)
        is_word w c =
            let same : word ≡ ranks = cc in
            inr (ap length (sym same) ∙ long, subst (λ (x : List ℕ). Leads machine x at) same leads, c)

        by : (old : Option (List ℕ)) → word_at found at ≡ old
            → (word_at from at ≡ Some ranks) ⊎ ((length ranks ≡ depth + 1) × Leads machine ranks at × Contains (listed found next at) at)
        by None o = is_word (ap (λ (x : Option (List ℕ)). earlier x word) o) (listed_new next o)
        by (Some old) o = elim (earlier_cases old word) [
          | inl w ↦ elim (ahead.fresh at old o) [
            | inl was ↦ (let stays = shorter_stays old word (let l = short at old was in omega (arith, l, long)) in
                let now : old ≡ ranks = sym stays ∙ sym (ap (λ (x : Option (List ℕ)). earlier x word) o) ∙ (let inner : earlier (word_at found at) word ≡ ranks = cc in inner) in
                inl (was ∙ ap Some now))
            | inr n ↦ is_word (ap (λ (x : Option (List ℕ)). earlier x word) o ∙ w) (Contains-append_left next (if is_none (word_at found at) then at ∷ [] else []) at n.2)
          ]
          | inr w ↦ (let now : word_at found at ≡ Some ranks = o ∙ ap Some (sym w ∙ sym (ap (λ (x : Option (List ℕ)). earlier x word) o)) ∙ e in more at ranks (ahead.fresh at ranks now))
        ]

    fresh : (q : ℕ) (ranks : List ℕ) → word_at (noted found at word) q ≡ Some ranks
        → (word_at from q ≡ Some ranks) ⊎ ((length ranks ≡ depth + 1) × Leads machine ranks q × Contains (listed found next at) q)
    fresh q ranks e = by (cases_eq q at)
      where
        by : (q ≡ at) ⊎ (q ≡ at → ⊥) → (word_at from q ≡ Some ranks) ⊎ ((length ranks ≡ depth + 1) × Leads machine ranks q × Contains (listed found next at) q)
        by (inl s) =
            let there : Some (earlier (word_at found at) word) ≡ Some ranks = sym here ∙ ap (word_at (noted found at word)) (sym s) ∙ e in
            subst (λ (x : ℕ). (word_at from x ≡ Some ranks) ⊎ ((length ranks ≡ depth + 1) × Leads machine ranks x × Contains (listed found next at) x)) (sym s) (fresh_here ranks there)
        by (inr n) = more q ranks (ahead.fresh q ranks (sym (there q n) ∙ e))

    lists : (q : ℕ) → Contains (listed found next at) q → (q < length from) × ((ranks : List ℕ) × (word_at (noted found at word) q ≡ Some ranks) × (length ranks ≡ depth + 1))
    lists q h = by (listed_cases next q h)
      where
        old_one : (q < length from) × ((ranks : List ℕ) × (word_at found q ≡ Some ranks) × (length ranks ≡ depth + 1)) → (q ≡ at) ⊎ (q ≡ at → ⊥)
            → (q < length from) × ((ranks : List ℕ) × (word_at (noted found at word) q ≡ Some ranks) × (length ranks ≡ depth + 1))
        old_one w (inl s) =
            let was : word_at found at ≡ Some w.1.0 = ap (word_at found) (sym s) ∙ w.1.1 in
            let is : word_at (noted found at word) q ≡ Some (earlier (Some w.1.0) word) = ap (word_at (noted found at word)) s ∙ here ∙ ap (λ (o : Option (List ℕ)). Some (earlier o word)) was in
            (w.0, (earlier (Some w.1.0) word, is, elim (earlier_cases w.1.0 word) [ inl e ↦ ap length e ∙ long | inr e ↦ ap length e ∙ w.1.2 ]))
        old_one w (inr n) = (w.0, (w.1.0, there q n ∙ w.1.1, w.1.2))

        by : Contains next q ⊎ ((at ≡ q) × (word_at found at ≡ None)) → (q < length from) × ((ranks : List ℕ) × (word_at (noted found at word) q ≡ Some ranks) × (length ranks ≡ depth + 1))
        by (inl c) = old_one (ahead.lists q c) (cases_eq q at)
        by (inr n) =
            let size = ahead.size in
            let is : word_at (noted found at word) q ≡ Some word = ap (word_at (noted found at word)) (sym n.0) ∙ here ∙ ap (λ (o : Option (List ℕ)). Some (earlier o word)) n.1 in
            (omega (arith, inside, size, n.0), (word, is, long))

    pub ahead_noted : Ahead machine depth from (noted found at word) (listed found next at)
    ahead_noted = record {
      size = length-set found at (Some (earlier (word_at found at) word)) ∙ ahead.size;
      keeps = keeps;
      fresh = fresh;
      lists = lists;
      count = unfound-noted next ∙ ahead.count;
    }

-- ---- the words of some moves

goes_within : (b : ℕ) (move : Move) → goes_by b move ≡ true → (move.low ≤ b) × (b ≤ move.high)
goes_within b move e = grind (arith, nat_tests)

within_goes : (b : ℕ) (move : Move) → move.low ≤ b → b ≤ move.high → goes_by b move ≡ true
within_goes b move l h = grind (arith, nat_tests)

module _ (old : Found) (before : List ℕ) (word : List ℕ) (done : List Move) (move : Move) (new : Found) (list : List ℕ) (was : Noted old before word done new list) where
  -- no byte goes by an empty move
  pub noted_idle : move.high < move.low → Noted old before word (done ++ move ∷ []) new list
  noted_idle empty = record {
    size = was.size;
    ahead = λ machine depth from ahead short long leads. was.ahead machine depth from ahead short long (λ m b byte c g. leads m b byte (Contains-append_left done (move ∷ []) m c) g);
    kept = was.kept;
    all = λ m b c g. elim (Contains-push_cases done move m c) [
      | inl k ↦ was.all m b k g
      | inr e ↦ absurd (let w = goes_within b move (ap (goes_by b) e ∙ g) in omega (arith, empty, w.0, w.1))
    ];
  }

  -- the first byte of a move serves for all of them
  pub noted_move : (first b : ℕ) → b < 256 → move.low ≤ b → b ≤ move.high → rank b ≡ first → ((c : ℕ) → move.low ≤ c → c ≤ move.high → first ≤ rank c) → move.to < length new
      → Noted old before word (done ++ move ∷ []) (noted new move.to (word ++ first ∷ [])) (listed new list move.to)
  noted_move first b byte low high is least inside = record {
    size = length-set new move.to (Some (earlier (word_at new move.to) (word ++ first ∷ []))) ∙ was.size;
    ahead = λ machine depth from ahead short long leads.
        ahead_noted new move.to (word ++ first ∷ []) inside machine depth from list
        (was.ahead machine depth from ahead short long (λ m c k within g. leads m c k (Contains-append_left done (move ∷ []) m within) g))
        short (length-append word (first ∷ []) ∙ ap (λ n. n + 1) long)
        (subst (λ (r : ℕ). Leads machine (word ++ r ∷ []) move.to) is (leads move b byte (Contains-push done move) (within_goes b move low high)));
    kept = λ q ranks h. noted_keeps new move.to (word ++ first ∷ []) inside q ranks (was.kept q ranks h);
    all = λ m c k g. elim (Contains-push_cases done move m k) [
      | inl within ↦ noted_keeps new move.to (word ++ first ∷ []) inside m.to (word ++ rank c ∷ []) (was.all m c within g)
      | inr e ↦ (let w = goes_within c move (ap (goes_by c) e ∙ g) in
          let h = noted_here new move.to (word ++ first ∷ []) inside in
          subst (λ (to : ℕ). HasUpTo (noted new move.to (word ++ first ∷ [])) to (word ++ rank c ∷ [])) (ap (λ (x : Move). x.to) e)
          (h.0, h.1, first_trans h.0 (word ++ first ∷ []) (word ++ rank c ∷ []) h.2 (lesser_follows word first (rank c) (least c w.0 w.1))))
    ];
  }

-- the same for lists that are the same
pub noted_same : (old : Found) (before word : List ℕ) (moves moves' : List Move) (new new' : Found) (list list' : List ℕ) → moves' ≡ moves → new' ≡ new → list' ≡ list
    → Noted old before word moves new list → Noted old before word moves' new' list'
noted_same old before word moves moves' new new' list list' m n l was =
    subst (λ (x : List Move). Noted old before word x new' list') (sym m)
    (subst (λ (x : Found). Noted old before word moves x list') (sym n)
    (subst (λ (x : List ℕ). Noted old before word moves new x) (sym l) was))
