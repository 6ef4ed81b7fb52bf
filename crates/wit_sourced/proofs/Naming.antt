-- Names with other keys are other names.
use Rattle.std.proofs.Common.{◌≡◌, ◌∙◌, Bool, true, false, refl, ap, ap₂}
use Rattle.std.specs.Prelude.{◌==◌, ◌&&◌, bytes_eq}
use Rattle.std.specs.Cmp.Lexicographic.{bytes_decides}
use Rattle.std.specs.Ordering.{is_eq}
use Rattle.std.proofs.lemmas.Bool.{and_parts, eqb-true}
use Rattle.std.proofs.lemmas.Cmp.{eq_by_cmp_equiv}
use Rattle.wit_lower.specs.Homes.{Name, Variable, Signal, Port, same_name}
use Rattle.wit_sourced.specs.contracts.names.KeyOrd.TheImpl.Laws.{total-law}
use Rattle.wit_sourced.specs.Named.{key_of}
use Rattle.wit_sourced.specs.Order.{key_cmp}

pub same_is : (x y : Name) → same_name x y ≡ true → x ≡ y
same_is (Variable n) (Variable m) h = ap Variable (eqb-true n m h)
same_is (Variable n) (Signal m) h = cc
same_is (Variable n) (Port m j a) h = cc
same_is (Signal n) (Variable m) h = cc
same_is (Signal n) (Signal m) h = ap Signal (eqb-true n m h)
same_is (Signal n) (Port m j a) h = cc
same_is (Port n j a) (Variable m) h = cc
same_is (Port n j a) (Signal m) h = cc
same_is (Port n j a) (Port m k b) h =
    let one = and_parts (n == m) ((j == k) && bytes_eq a b) h in
    let two = and_parts (j == k) (bytes_eq a b) one.1 in
    ap (λ x. Port x j a) (eqb-true n m one.0) ∙ ap₂ (λ x t. Port m x t) (eqb-true j k two.0)
    ((bytes_decides a b).0 two.1)

pub name_apart : (x y : Name) → is_eq (key_cmp (key_of y) (key_of x)) ≡ false
    → same_name x y ≡ false
name_apart x y apart = at (same_name x y) refl
  where
    at : (b : Bool) → same_name x y ≡ b → same_name x y ≡ false
    at false e = e
    at true e =
        let own : is_eq (key_cmp (key_of x) (key_of x)) ≡ true =
        (eq_by_cmp_equiv total-law).refl (key_of x) in
        let here : is_eq (key_cmp (key_of x) (key_of x)) ≡ false =
        ap (λ z. is_eq (key_cmp (key_of z) (key_of x))) (same_is x y e) ∙ apart in
        cc
