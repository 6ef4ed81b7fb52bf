-- Over the same files a name has one program, or one refusal.
use Rattle.std.proofs.Common.{◌≡◌, ◌∙◌, ℕ, List, Option, None, sym, ap, inl, inr}
use Rattle.out_io.specs.Contents.{Contents}
use Rattle.cir_ast.specs.declared.program.Meant.{Meant}
use Rattle.cir_ast.specs.declared.program.Spot.{Spot}
use Rattle.cir_ast.specs.Tree.{File}
use Rattle.cir_ast.specs.Program.{Program}
use Rattle.cir_ast.specs.declared.refusal.Refusal.{Refusal}
use Rattle.cir_resolve.specs.Definitions.{resolved}
use Rattle.cir_checks.specs.Checks.{program_with}
use Rattle.cir_sources.specs.Includes.{Source}
use Rattle.cir_sources.specs.Loading.{AreAll}
use Rattle.cir_sources.proofs.OneLoading.{one_list, one_refusal, all_or_refused, there_or_all}
use Rattle.cir_sources.proofs.OneLoading.{there_or_refused}
use Rattle.cir_names.specs.Programs.{definitions_from, names_of, AreTrees, name_fault, refusal_of}
use Rattle.cir_names.specs.Loading.{IsLoaded, IsNameRefusal, IsLoadFault}
use Rattle.cir_names.proofs.Unresolved.{same_named}

module _ (files : Contents) (name : List ℕ) (library : Option (List ℕ)) where
  -- the sources are the same, and so is what their definitions are resolved to
  one_resolved : {a b : List Source} (trees others : List (File Spot Meant))
      → AreAll files name library a → AreAll files name library b → AreTrees a trees
      → AreTrees b others
      → (a ≡ b) × (resolved (definitions_from 0 trees) ≡ resolved (definitions_from 0 others))
  one_resolved trees others all too are and =
      let same = one_list files library name _ _ all too in
      (same, same_named trees others (cc (are, and, same)))

  pub one_program : (p q : Program) → IsLoaded files name library p → IsLoaded files name library q
      → p ≡ q
  one_program p q x y =
      let one = one_resolved x.theirs.trees y.theirs.trees x.all y.all x.theirs.are y.theirs.are in
      let definitions : x.theirs.definitions ≡ y.theirs.definitions =
      cc (one.1, x.theirs.named, y.theirs.named) in
      x.theirs.is ∙ (λ i. program_with (names_of (one.0 i)) (definitions i)) ∙ sym y.theirs.is

  one_name_refusal : (r s : Refusal) → IsNameRefusal files name library r
      → IsNameRefusal files name library s → r ≡ s
  one_name_refusal r s x y =
      let one = one_resolved x.fault.trees y.fault.trees x.all y.all x.fault.are y.fault.are in
      let found : x.fault.found ≡ y.fault.found =
      cc (ap name_fault one.1, x.fault.fault, y.fault.fault) in
      x.fault.refusal ∙ (λ i. refusal_of (names_of (one.0 i)) (found i)) ∙ sym y.fault.refusal

  pub one_load_fault : (r s : Refusal) → IsLoadFault files name library r
      → IsLoadFault files name library s → r ≡ s
  one_load_fault r s (inl x) (inl y) = one_refusal files library name r s x y
  one_load_fault r s (inl x) (inr y) =
      absurd (all_or_refused files library name y.sources r y.all x)
  one_load_fault r s (inr x) (inl y) =
      absurd (all_or_refused files library name x.sources s x.all y)
  one_load_fault r s (inr x) (inr y) = one_name_refusal r s x y

  pub loaded_or_refused : (p : Program) (r : Refusal) → IsLoaded files name library p
      → IsLoadFault files name library r → ⊥
  loaded_or_refused p r x (inl y) = all_or_refused files library name x.sources r x.all y
  loaded_or_refused p r x (inr y) =
      let one = one_resolved x.theirs.trees y.fault.trees x.all y.all x.theirs.are y.fault.are in
      cc (x.theirs.faultless, ap name_fault (sym x.theirs.named ∙ one.1) ∙ y.fault.fault)

  pub there_or_loaded : (p : Program) → files name ≡ None → IsLoaded files name library p → ⊥
  there_or_loaded p none x = there_or_all files library name x.sources none x.all

  pub there_or_fault : (r : Refusal) → files name ≡ None → IsLoadFault files name library r → ⊥
  there_or_fault r none (inl x) = there_or_refused files library name r none x
  there_or_fault r none (inr x) = there_or_all files library name x.sources none x.all
