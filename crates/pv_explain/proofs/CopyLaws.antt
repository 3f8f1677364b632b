-- The paths to which the objects at some paths is copied.
use Rattle.std.proofs.Common.{◌≡◌, ◌∙◌, false, List, [], ◌∷◌, ◌++◌, map, Option, Some, None, is_some, option_map, refl, ap}
use Rattle.std.specs.List.{filter_map, cons_option}
use Rattle.std.proofs.lemmas.List.{append-nil, map-append}
use Rattle.std.proofs.lemmas.List.Elements.{filter_map-append}
use Rattle.pv_path.specs.Paths.{Path, is_prefix, rest_under}
use Rattle.pv_path.proofs.PathLaws.{is_some-rest_under}

module _ (source path : Path) where
  abbrev pub copies : List Path → List Path
  copies ps = map (λ (rest : Path). path ++ rest) (filter_map (rest_under source) ps)

  both : (ps : List Path) (p : Path) → copies (ps ++ p ∷ []) ≡ copies ps ++ copies (p ∷ [])
  both ps p =
      ap (map (λ (rest : Path). path ++ rest)) (filter_map-append (rest_under source) ps (p ∷ []))
      ∙ map-append (λ (rest : Path). path ++ rest) (filter_map (rest_under source) ps) (filter_map (rest_under source) (p ∷ []))

  one : (o : Option Path) (moved : Path) → option_map (λ (rest : Path). path ++ rest) o ≡ Some moved → map (λ (rest : Path). path ++ rest) (cons_option o []) ≡ moved ∷ []
  one None moved e = cc
  one (Some rest) moved e = let same : path ++ rest ≡ moved = cc in ap (λ (q : Path). q ∷ []) same

  -- a path at or below the source is copied
  pub copies_more : (ps : List Path) (p moved : Path) → option_map (λ (rest : Path). path ++ rest) (rest_under source p) ≡ Some moved → copies (ps ++ p ∷ []) ≡ copies ps ++ moved ∷ []
  copies_more ps p moved e = both ps p ∙ ap (λ (qs : List Path). copies ps ++ qs) (one (rest_under source p) moved e)

  none : (o : Option Path) → is_some o ≡ false → map (λ (rest : Path). path ++ rest) (cons_option o []) ≡ []
  none None e = refl
  none (Some rest) e = cc

  -- any other is not
  pub copies_stay : (ps : List Path) (p : Path) → is_prefix source p ≡ false → copies (ps ++ p ∷ []) ≡ copies ps
  copies_stay ps p e = both ps p ∙ ap (λ (qs : List Path). copies ps ++ qs) (none (rest_under source p) (is_some-rest_under source p ∙ e)) ∙ append-nil (copies ps)
