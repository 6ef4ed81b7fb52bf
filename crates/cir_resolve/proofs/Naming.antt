-- Names by their bytes: what a change at one name leaves at any name.
use Rattle.std.proofs.Common.{◌≡◌, ◌∙◌, ℕ, Bool, true, false, cond, List, [], ◌∷◌, ◌++◌}
use Rattle.std.proofs.Common.{Option, Some, sym, subst, ap, refl, ⊎_elim}
use Rattle.std.proofs.lemmas.Bool.{cases_Bool, cond-true, cond-false}
use Rattle.std.proofs.lemmas.List.{nil_from_length}
use Rattle.std.proofs.lemmas.List.Sums.{fold-append}
use Rattle.std.specs.Cmp.Lexicographic.{bytes_decides, nat_list_eq_equiv}
use Rattle.std.specs.Str.{bytes_eq}
use Rattle.std.specs.Option.{option_or}
use Rattle.std.specs.HashMap.{HashMap, UpdatesBy, get_by, hash_map_len}
use Rattle.std.specs.Map.{update, lookup, KeepsOthers}
use Rattle.cir_resolve.specs.declared.names.Named.{Named}
use Rattle.cir_resolve.specs.Scope.{nothing}
use Rattle.cir_resolve.specs.Answers.{newest_in}

-- a map whose keys are known by their bytes
pub updates_named : {K X S : Type 0} (bytes_of : K → List ℕ) (bs : List ℕ) (m n : HashMap K X S)
    (w : Option X)
    → UpdatesBy (λ x y. bytes_eq (bytes_of x) (bytes_of y)) (λ k. bytes_eq bs (bytes_of k)) m n w
    → (cs : List ℕ)
    → get_by (λ k. bytes_eq cs (bytes_of k)) n
    ≡ update bytes_eq (λ ds. get_by (λ k. bytes_eq ds (bytes_of k)) m) bs w cs
unfolding KeepsOthers
updates_named bytes_of bs m n w h cs =
    let before = get_by (λ k. bytes_eq cs (bytes_of k)) m in
    ⊎_elim
    (λ y. subst (λ l. get_by (λ k. bytes_eq l (bytes_of k)) n ≡ w) ((bytes_decides bs cs).0 y) h.1
    ∙ sym (cond-true (bytes_eq bs cs) w before y))
    (λ e. h.3 (λ k. bytes_eq cs (bytes_of k))
    (λ x y. nat_list_eq_equiv.congr cs (bytes_of x) (bytes_of y))
    (λ k y. nat_list_eq_equiv.symm cs (bytes_of k)
    ∙ sym (nat_list_eq_equiv.congr bs (bytes_of k) cs y) ∙ e)
    ∙ sym (cond-false (bytes_eq bs cs) w before e))
    (cases_Bool (bytes_eq bs cs))

-- where there are none in a map, what is found elsewhere counts
pub none_hide : {K X S : Type 0} (test : K → Bool) (m : HashMap K X S) (found : Option X)
    → hash_map_len m ≡ 0 → option_or (get_by test m) found ≡ found
none_hide test m found none =
    ap (λ es. option_or (lookup test es) found) (nil_from_length m.entries none)

-- what hides some names and stands in front of others hides those too
pub hides_both : {A : Type 0} (b : Bool) (a : A) (x y : Option A)
    → option_or (cond b (Some a) x) y ≡ cond b (Some a) (option_or x y)
hides_both true a x y = refl
hides_both false a x y = refl

-- one more name behind these
pub newest_push : (others : List Named) (n : Named) (name : List ℕ)
    → newest_in (others ++ n ∷ []) name
    ≡ cond (bytes_eq n.name.items name) (Some n.meant) (newest_in others name)
newest_push others n name =
    ap (λ f. f name)
    (fold-append (λ older k. update bytes_eq older k.name.items (Some k.meant)) nothing others
    (n ∷ []))
