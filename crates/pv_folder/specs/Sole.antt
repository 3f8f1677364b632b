-- What holds of a tree in a folder has at most one proof. So it can be kept in a field of a type without making
-- equal values different.
use Rattle.std.specs.Prelude.{◌≡◌, ℕ, Bool, true, false, List, ◌++◌, Option, Some, None, option_map, IfSome}
use Rattle.std.proofs.Common.{refl, sym, ap, ◌∙◌, inl, inr}
use Rattle.std.specs.Coded.{Coded, Coded-set, Unit-prop, code_by, coded_bool, coded_list, coded_option, coded_ℕ}
use Rattle.pv_path.specs.Paths.{Path}
use Rattle.pv_steps.specs.Trees.{Files, places}
use Rattle.pv_folder.specs.declared.item.HostKind.{HostKind}
use Rattle.pv_folder.specs.declared.item.HostKind.TheVariants as kind
use Rattle.pv_folder.specs.Content.{Content, Held, HostObject, held, kind_of}
use Rattle.pv_folder.specs.Content as host
use Rattle.pv_folder.specs.Folders.{Agrees, IsFree, IsPrepared, real_of, tree_path}
use Rattle.pv_folder.specs.Keeping.{IsReady}

-- ---- objects and kinds as data

abbrev object_as_data : HostObject → Option (Option (List ℕ))
object_as_data host.Directory = None
object_as_data host.Other = Some None
object_as_data (host.File bytes) = Some (Some bytes)

abbrev data_as_object : Option (Option (List ℕ)) → HostObject
data_as_object None = host.Directory
data_as_object (Some None) = host.Other
data_as_object (Some (Some bytes)) = host.File bytes

object_again : (o : HostObject) → data_as_object (object_as_data o) ≡ o
object_again host.Directory = refl
object_again host.Other = refl
object_again (host.File bytes) = refl

abbrev object_code : Coded HostObject
object_code = code_by (Option (Option (List ℕ))) (coded_option (coded_option (coded_list coded_ℕ))) object_as_data data_as_object object_again

abbrev kind_as_data : HostKind → Option Bool
kind_as_data kind.Directory = None
kind_as_data kind.Other = Some false
kind_as_data kind.File = Some true

abbrev data_as_kind : Option Bool → HostKind
data_as_kind None = kind.Directory
data_as_kind (Some false) = kind.Other
data_as_kind (Some true) = kind.File

kind_again : (k : HostKind) → data_as_kind (kind_as_data k) ≡ k
kind_again kind.Directory = refl
kind_again kind.Other = refl
kind_again kind.File = refl

abbrev kind_code : Coded HostKind
kind_code = code_by (Option Bool) (coded_option coded_bool) kind_as_data data_as_kind kind_again

-- ---- facts

same_object : (x y : Option HostObject) → IsProp (x ≡ y)
same_object x y = Coded-set (coded_option object_code) x y

same_kind : (x y : Option HostKind) → IsProp (x ≡ y)
same_kind x y = Coded-set (coded_option kind_code) x y

free_prop : (t : Held) (path : Path) → IsProp (IsFree t path)
free_prop t path (inl a) (inl b) = λ j. inl (same_object (t path) None a b j)
free_prop t path (inl a) (inr b) = absurd (let no : None ≡ Some kind.File = sym (ap (option_map kind_of) a) ∙ b in cc)
free_prop t path (inr a) (inl b) = absurd (let no : None ≡ Some kind.File = sym (ap (option_map kind_of) b) ∙ a in cc)
free_prop t path (inr a) (inr b) = λ j. inr (same_kind (option_map kind_of (t path)) (Some kind.File) a b j)

prepared_prop : (folder : Path) (t : Held) → IsProp (IsPrepared folder t)
prepared_prop folder t x y = λ j. record {
  tree = same_kind _ _ x.tree y.tree j;
  manifest = free_prop t _ x.manifest y.manifest j;
  new_manifest = free_prop t _ x.new_manifest y.new_manifest j;
}

is_ready_prop : (folder : Path) (t : Held) → IsProp (IsReady folder t)
is_ready_prop folder t x y = λ j. record {
  names = Coded-set coded_bool _ _ x.names y.names j;
  place = same_kind _ _ x.place y.place j;
  prepared = prepared_prop folder t x.prepared y.prepared j;
  alone = λ name rest. same_object _ _ (x.alone name rest) (y.alone name rest) j;
  new_alone = λ name rest. same_object _ _ (x.new_alone name rest) (y.new_alone name rest) j;
}

pub ready_prop : (folder : Path) (content : Option Content) → IsProp (IfSome content (λ c. IsReady folder (held c)))
ready_prop folder (Some c) = is_ready_prop folder (held c)
ready_prop folder None = Unit-prop

told_prop : (folder : Path) (files : Files) (content : Option Content) → IsProp (IfSome content (λ c. Agrees folder files (held c)))
told_prop folder files (Some c) = λ x y j path. same_object (held c (tree_path folder ++ path)) (real_of (places files path)) (x path) (y path) j
told_prop folder files None = Unit-prop

pub agrees_prop : (pending : Bool) (folder : Path) (files : Files) (content : Option Content) → IsProp (pending ≡ false → IfSome content (λ c. Agrees folder files (held c)))
agrees_prop pending folder files content = λ x y j h. told_prop folder files content (x h) (y h) j
