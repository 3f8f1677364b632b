-- What some element of a list passes, and where a byte leads by some moves.
use Rattle.std.proofs.Common.{◌≡◌, ℕ, zero, suc, ◌<◌, ◌⊎◌, inl, inr, Bool, true, false, ◌||◌, List, [], ◌∷◌, length, map, filter, get_or, Contains, refl, sym, ap, ◌∙◌, subst, arith, cond}
use Rattle.std.specs.List.{list_any}
use Rattle.pv_glob.specs.declared.moves.Move.{Move}
use Rattle.pv_glob.specs.Machines.{goes_by, targets}

module _ {X : Type 0} where
  pub contains_here : (x : X) (xs : List X) → Contains (x ∷ xs) x
  contains_here x xs = (0, omega arith, refl)

  pub contains_there : (x y : X) (xs : List X) → Contains xs y → Contains (x ∷ xs) y
  contains_there x y xs h = (suc h.0, let l = h.1 in omega arith, h.2)

  pub contains_cases : (x y : X) (xs : List X) → Contains (x ∷ xs) y → (x ≡ y) ⊎ Contains xs y
  contains_cases x y xs h = by h.0 h.1 h.2
    where
      by : (k : ℕ) → k < length (x ∷ xs) → get_or (x ∷ xs) k y ≡ y → (x ≡ y) ⊎ Contains xs y
      by zero l e = inl e
      by (suc k) l e = inr (k, omega arith, e)

  pub contains_none : (y : X) → Contains [] y → ⊥
  contains_none y h = let l = h.1 in omega arith

  pub any_here : (p : X → Bool) (xs : List X) (x : X) → Contains xs x → p x ≡ true → list_any p xs ≡ true
  any_here p [] x h e = absurd (contains_none x h)
  any_here p (y ∷ xs) x h e = by (p y) refl (contains_cases y x xs h) (λ c. any_here p xs x c e)
    where
      by : (t : Bool) → p y ≡ t → (y ≡ x) ⊎ Contains xs x → (Contains xs x → list_any p xs ≡ true) → list_any p (y ∷ xs) ≡ true
      by true is c later = ap (λ b. b || list_any p xs) is
      by false is (inl s) later = absurd (let no : false ≡ true = sym is ∙ ap p s ∙ e in cc)
      by false is (inr c) later = ap (λ b. b || list_any p xs) is ∙ later c

  pub any_has : (p : X → Bool) (xs : List X) → list_any p xs ≡ true → (x : X) × Contains xs x × (p x ≡ true)
  any_has p [] e = absurd (let no : false ≡ true = e in cc)
  any_has p (y ∷ xs) e = by (p y) refl (λ r. any_has p xs r)
    where
      later : (x : X) × Contains xs x × (p x ≡ true) → (x : X) × Contains (y ∷ xs) x × (p x ≡ true)
      later w = (w.0, contains_there y w.0 xs w.1, w.2)

      by : (t : Bool) → p y ≡ t → (list_any p xs ≡ true → (x : X) × Contains xs x × (p x ≡ true)) → (x : X) × Contains (y ∷ xs) x × (p x ≡ true)
      by true is on = (y, contains_here y xs, is)
      by false is on = later (on (sym (ap (λ b. b || list_any p xs) is) ∙ e))

-- a byte goes to a place by some move
pub target_move : (moves : List Move) (b to : ℕ) → Contains (targets moves b) to → (move : Move) × Contains moves move × (goes_by b move ≡ true) × (move.to ≡ to)
target_move [] b to h = absurd (contains_none to h)
target_move (move ∷ moves) b to h = by (goes_by b move) refl (λ r. target_move moves b to r)
  where
    later : (m : Move) × Contains moves m × (goes_by b m ≡ true) × (m.to ≡ to) → (m : Move) × Contains (move ∷ moves) m × (goes_by b m ≡ true) × (m.to ≡ to)
    later w = (w.0, contains_there move w.0 moves w.1, w.2, w.3)

    first : goes_by b move ≡ true → (move.to ≡ to) ⊎ Contains (targets moves b) to → (Contains (targets moves b) to → (m : Move) × Contains moves m × (goes_by b m ≡ true) × (m.to ≡ to)) → (m : Move) × Contains (move ∷ moves) m × (goes_by b m ≡ true) × (m.to ≡ to)
    first is (inl e) on = (move, contains_here move moves, is, e)
    first is (inr c) on = later (on c)

    by : (t : Bool) → goes_by b move ≡ t → (Contains (targets moves b) to → (m : Move) × Contains moves m × (goes_by b m ≡ true) × (m.to ≡ to)) → (m : Move) × Contains (move ∷ moves) m × (goes_by b m ≡ true) × (m.to ≡ to)
    by true is on = first is (contains_cases move.to to (targets moves b) (subst (λ (t : Bool). Contains (map (λ (m : Move). m.to) (cond t (move ∷ filter (goes_by b) moves) (filter (goes_by b) moves))) to) is h)) on
    by false is on = later (on (subst (λ (t : Bool). Contains (map (λ (m : Move). m.to) (cond t (move ∷ filter (goes_by b) moves) (filter (goes_by b) moves))) to) is h))

-- a move leads a byte to its place
pub move_target : (moves : List Move) (b : ℕ) (move : Move) → Contains moves move → goes_by b move ≡ true → Contains (targets moves b) move.to
move_target [] b move h e = absurd (contains_none move h)
move_target (m ∷ moves) b move h e = by (goes_by b m) refl (contains_cases m move moves h) (λ c. move_target moves b move c e)
  where
    by : (t : Bool) → goes_by b m ≡ t → (m ≡ move) ⊎ Contains moves move → (Contains moves move → Contains (targets moves b) move.to) → Contains (targets (m ∷ moves) b) move.to
    by true is (inl s) on = subst (λ (t : Bool). Contains (map (λ (m : Move). m.to) (cond t (m ∷ filter (goes_by b) moves) (filter (goes_by b) moves))) move.to) (sym is)
        (subst (λ (to : ℕ). Contains (m.to ∷ targets moves b) to) (ap (λ (x : Move). x.to) s) (contains_here m.to (targets moves b)))
    by true is (inr c) on = subst (λ (t : Bool). Contains (map (λ (m : Move). m.to) (cond t (m ∷ filter (goes_by b) moves) (filter (goes_by b) moves))) move.to) (sym is)
        (contains_there m.to move.to (targets moves b) (on c))
    by false is (inl s) on = absurd (let no : false ≡ true = sym is ∙ ap (goes_by b) s ∙ e in cc)
    by false is (inr c) on = subst (λ (t : Bool). Contains (map (λ (m : Move). m.to) (cond t (m ∷ filter (goes_by b) moves) (filter (goes_by b) moves))) move.to) (sym is) (on c)
