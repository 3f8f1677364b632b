-- The texts of a line, and what is read of them.
use Rattle.std.proofs.Common.{◌≡◌, ℕ, zero, suc, List, [], ◌∷◌, ◌++◌, drop, length, map, Some, None, Result, Ok, option_map, refl, sym, ap, ◌∙◌, append-nil}
use Rattle.std.specs.Prelude.{slice_get}
use Rattle.pv_path.specs.Results.{◌>>=◌, in_words}
use Rattle.pv_text.specs.Escapes.{unescaped}
use Rattle.pv_text.specs.Facts.{Values}
use Rattle.pv_text.specs.Fields.{Span, Cut, fields_of, text_at}
use Rattle.pv_text.specs.declared.text_fault.FieldFault.{FieldFault}
use Rattle.pv_text.specs.declared.place.Place.{Place}
use Rattle.pv_lines.specs.declared.line_fault.LineFault.TheVariants as fault
use Rattle.pv_lines.specs.ArgumentField.{Lookup}
use Rattle.pv_lines.specs.Lines.{line_of, line_with}

-- where nothing stands a list is at its end
nothing_left : {A : Type 0} (g : A → List ℕ) (xs : List A) (i : ℕ) → None ≡ option_map g (slice_get xs i) → drop i xs ≡ []
nothing_left g [] zero e = refl
nothing_left g [] (suc i) e = refl
nothing_left g (x ∷ xs) zero e = absurd (let no : None ≡ Some (g x) = e in cc)
nothing_left g (x ∷ xs) (suc i) e = nothing_left g xs i e

-- all texts are read
pub texts_end : {A : Type 0} (g : A → List ℕ) (f : List ℕ → List ℕ) (xs : List A) (done : List (List ℕ)) → None ≡ option_map g (slice_get xs (length done))
    → done ++ map (λ x. f (g x)) (drop (length done) xs) ≡ map (λ x. f (g x)) xs → done ≡ map (λ x. f (g x)) xs
texts_end g f xs done e before =
    sym (append-nil done) ∙ ap (λ r. done ++ map (λ x. f (g x)) r) (sym (nothing_left g xs (length done) e)) ∙ before

-- a line is read by the texts of its fields
pub line_of-texts : (facts : Values) (lookup : Lookup) (place : Place) (line : List ℕ) (cut : Cut) (texts : List (List ℕ)) → cut.line ≡ line → fields_of line ≡ Ok cut.spans
    → texts ≡ map (λ span. unescaped (text_at cut.line span)) cut.spans → line_of facts lookup place line ≡ line_with facts lookup place texts
line_of-texts facts lookup place line cut texts same is read =
    ap (λ (r : Result (List Span) FieldFault). in_words (λ f. fault.Field f) r >>= (λ spans. Ok (map (λ span. unescaped (text_at line span)) spans)) >>= line_with facts lookup place) is
    ∙ ap (λ (l : List ℕ). line_with facts lookup place (map (λ span. unescaped (text_at l span)) cut.spans)) (sym same)
    ∙ ap (line_with facts lookup place) (sym read)
