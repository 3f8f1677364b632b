-- How the names of a path are gone through, piece by piece.
use Rattle.std.proofs.Common.{◌≡◌, ◌∙◌, ◌+◌, ◌<◌, ℕ, Bool, true, false, List, [], ◌∷◌, ◌++◌, length, drop, get_or, refl, sym, ap, append_assoc, Bor}
use Rattle.std.specs.Prelude.{cond, nat_lt}
use Rattle.std.proofs.lemmas.Bool.{and_left, and_right}
use Rattle.std.proofs.lemmas.List.{at_drop_more, length-map}
use Rattle.pv_path.specs.Paths.{Path, has_names}
use Rattle.pv_path.proofs.PathLaws.{has_names-append}
use Rattle.pv_path.proofs.Tests.{texts, get_or-texts}
use Rattle.pv_folder.specs.Content.{names_among}

-- the names of a piece, and of those behind it
among_more : (piece : List ℕ) (pieces : List (List ℕ)) → names_among (piece ∷ pieces) ≡ names_among (piece ∷ []) ++ names_among pieces
among_more piece pieces = by (nat_lt 0 (length piece))
  where
    by : (b : Bool) → cond b (piece ∷ names_among pieces) (names_among pieces) ≡ cond b (piece ∷ []) [] ++ names_among pieces
    by true = refl
    by false = refl

module _ (path : Path) (pieces : List (Bor (List ℕ))) (i : ℕ) (d : Bor (List ℕ)) (within : i < length pieces) (so_far : path ++ names_among (drop i (texts pieces)) ≡ names_among (texts pieces)) where
  -- the next piece is taken
  pub taken : (path ++ names_among ((get_or pieces i d).now ∷ [])) ++ names_among (drop (i + 1) (texts pieces)) ≡ names_among (texts pieces)
  taken =
      let more : names_among (drop i (texts pieces)) ≡ names_among (get_or (texts pieces) i d.now ∷ drop (i + 1) (texts pieces)) = at_drop_more names_among (texts pieces) i d.now (simp length-map within) in
      let at : get_or (texts pieces) i d.now ≡ (get_or pieces i d).now = get_or-texts pieces i d in
      append_assoc path (names_among ((get_or pieces i d).now ∷ [])) (names_among (drop (i + 1) (texts pieces)))
      ∙ ap (λ rest. path ++ rest) (sym (among_more (get_or pieces i d).now (drop (i + 1) (texts pieces))))
      ∙ ap (λ (piece : List ℕ). path ++ names_among (piece ∷ drop (i + 1) (texts pieces))) (sym at)
      ∙ ap (λ rest. path ++ rest) (sym more)
      ∙ so_far

  -- if it is not a name, not all are
  pub not_taken : (text : List (List ℕ)) → texts pieces ≡ text → has_names (names_among ((get_or pieces i d).now ∷ [])) ≡ false → has_names (names_among text) ≡ false
  not_taken text cut unfit =
      let one : has_names (path ++ names_among ((get_or pieces i d).now ∷ [])) ≡ false =
      has_names-append path (names_among ((get_or pieces i d).now ∷ [])) ∙ and_right (has_names path) (has_names (names_among ((get_or pieces i d).now ∷ []))) unfit in
      ap (λ (p : List (List ℕ)). has_names (names_among p)) (sym cut) ∙ ap has_names (sym taken)
      ∙ has_names-append (path ++ names_among ((get_or pieces i d).now ∷ [])) (names_among (drop (i + 1) (texts pieces)))
      ∙ and_left (has_names (path ++ names_among ((get_or pieces i d).now ∷ []))) (has_names (names_among (drop (i + 1) (texts pieces)))) one
