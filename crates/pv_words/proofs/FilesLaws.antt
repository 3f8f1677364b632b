-- The file words, as `clap` hands them out.
use Rattle.std.proofs.Common.{◌≡◌, ◌∙◌, ap, sym, List, [], map, ℕ, Option, Some, None, codes, refl}
use Rattle.std.specs.Borrow.{Bor}
use Rattle.std.specs.Option.{option_map, option_map_or}
use Rattle.clap.specs.Matches.{matched_of, raw_values}
use Rattle.clap.specs.declared.parser.matches.Found.{Found}
use Rattle.clap.specs.declared.parser.matches.MatchedArg.{MatchedArg}
use Rattle.pv_words.specs.Reading.{files_in}

abbrev pub all_or_none : Option (List (List ℕ)) → List (List ℕ)
all_or_none None = []
all_or_none (Some words) = words

pub files-or : (o : Option MatchedArg) → option_map_or raw_values o [] ≡ all_or_none (option_map raw_values o)
files-or None = refl
files-or (Some a) = refl

pub files-are : (found : Found) (texts : List (Bor (List ℕ))) → Some (map (λ t. t.now) texts) ≡ option_map raw_values (matched_of found (codes "files"))
    → map (λ t. t.now) texts ≡ files_in found
files-are found texts is = ap all_or_none is ∙ sym (files-or (matched_of found (codes "files")))
