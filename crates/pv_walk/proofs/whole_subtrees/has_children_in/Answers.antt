use Rattle.std.proofs.Common.{◌≡◌, sym, ap, ◌∙◌, [], ◌∷◌, ◌++◌, List, ℕ, true, false}
use Rattle.std.proofs.lemmas.Option.{IfSome_then}
use Rattle.std.proofs.lemmas.Result.{IfOk-weaker}
use Rattle.std.specs.List.{list_all}
use Rattle.pv_walk.specs.Removal.{is_one_of}
use Rattle.pv_walk.proofs.FindingLaws.{no_names}
use Rattle.pv_walk.proofs.whole_subtrees.has_children_in.Goals as goal

pub is_directory_with-requires : goal.is_directory_with-requires
is_directory_with-requires g c = IfSome_then c.first_name-known.result c.first_name-known.ensures (λ name h. c.requires (c.args.path.now ++ name.now ∷ []) h)

pub returns-then-not-is_directory_with-clause-all : goal.returns-then-not-is_directory_with-clause-all
returns-then-not-is_directory_with-clause-all g c =
    sym (ap (λ (ns : List (List ℕ)). list_all (λ n. is_one_of c.args.whole.now (c.args.path.now ++ n ∷ [])) ns)
    (no_names (g.T.Tree.state c.args.tree.now) c.is_directory_with.ensures.tree c.args.path.now (λ e. let no : false ≡ true = c.if-not-is_directory_with.ensures.kind.1 e in cc)))

pub returns-clause-all : goal.returns-clause-all
returns-clause-all g c =
    IfOk-weaker c.are_children_in.result _ _
    (λ all is. is ∙ ap (λ (ns : List (List ℕ)). list_all (λ n. is_one_of c.args.whole.now (c.args.path.now ++ n ∷ [])) ns) (c.as_slice.ensures ∙ c.in_ok-names.ensures.names))
    c.are_children_in.ensures
