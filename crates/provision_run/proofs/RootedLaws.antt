-- Words that name a folder ask for no run over a generated tree.
use Rattle.std.specs.Prelude.{◌≡◌, ℕ, Bool, true, false, List, [], ◌∷◌, codes, Option, Some, None, option_and_then, if◌then◌else◌}
use Rattle.std.specs.Option.{option_map}
use Rattle.std.proofs.Common.{refl, sym, subst}
use Rattle.pv_path.specs.Names.{same_bytes}
use Rattle.pv_path.proofs.PathLaws.{same_bytes-decides}
use Rattle.pv_words.specs.Invocation.{parse_args, generate_of}
use Rattle.pv_words.specs.Cut.{Cut}
use Rattle.pv_words.specs.Meaning.{options_of}
use Rattle.pv_words.specs.Rooted.{cut_of, is_folder, rooted_of, rooted_with}
use Rattle.pv_words.specs.declared.invocation.Invocation.TheVariants.{Run, Generate}
use Rattle.pv_words.specs.declared.options.Options.{Options}
use Rattle.pv_words.specs.declared.rooted.Rooted.{Rooted}

-- a folder with options
abbrev with_options : List ℕ → Options → Rooted
with_options folder o = record { folder = folder; options = o }

-- a folder with words that mean nothing
no_options : (folder : List ℕ) → rooted_with folder None ≡ None
no_options folder = by (is_folder folder)
  where
    by : (t : Bool) → (if t then option_map (with_options folder) None else None) ≡ None
    by true = refl
    by false = refl

-- `generate` is no tool
generate_cut : (c : Option Cut) → option_and_then (λ c. rooted_with c.folder (options_of (codes "generate" ∷ c.others))) c ≡ None
generate_cut None = refl
generate_cut (Some c) = no_options c.folder

not_run : (o : Option Options) (seed count : ℕ) → option_map Run o ≡ Some (Generate seed count) → ⊥
not_run None seed count e = cc
not_run (Some o) seed count e = cc

pub generate_unrooted : (words : List (List ℕ)) (seed count : ℕ) → parse_args words ≡ Some (Generate seed count) → rooted_of words ≡ None
generate_unrooted [] seed count e = refl
generate_unrooted (word ∷ words) seed count e = by (same_bytes word (codes "generate")) refl e
  where
    by : (t : Bool) → same_bytes word (codes "generate") ≡ t
        → (if t then generate_of words else option_map Run (options_of (word ∷ words))) ≡ Some (Generate seed count) → rooted_of (word ∷ words) ≡ None
    by true is e =
        let same : word ≡ codes "generate" = (same_bytes-decides word (codes "generate")).0 is in
        subst (λ (w : List ℕ). rooted_of (w ∷ words) ≡ None) (sym same) (generate_cut (cut_of words))
    by false is e = absurd (not_run (options_of (word ∷ words)) seed count e)
