use Rattle.std.proofs.Common.{◌≡◌, ℕ, zero, suc, ◌*◌, List, ◌++◌, ◌∙◌, subst, arith}
use Rattle.std.proofs.Common.{append_assoc}
use Rattle.iden_files.specs.File.{File}
use Rattle.lig_layout.specs.declared.params.Params.{Params}
use Rattle.lig_layout.specs.Sizes.{params_of}
use Rattle.lig_layout.specs.System.{combined, left_sides, equation_count}
use Rattle.lig_proof.specs.declared.challenge.Challenges.{Challenges}
use Rattle.lig_proof.specs.Encoding.{InterpolateRows}
use Rattle.lig_proof.specs.Proving.{AreSystems}
use Rattle.lig_proof.specs.Sent.{r_numbers}
use Rattle.lig_prover.proofs.sent.sent.Goals as goal

-- the system of one repetition
abbrev either : (ℕ → List ℕ) → (ℕ → List ℕ) → ℕ → ℕ → List ℕ
either first second zero = first
either first second (suc t) = second

abbrev InterpolatesAt : Params → File → Challenges → ℕ → (ℕ → List ℕ) → Type 0
InterpolatesAt p f c t system =
    InterpolateRows p (combined (p.rows * p.l) (r_numbers (equation_count f) c t) (left_sides p f))
    system

both : (p : Params) (f : File) (c : Challenges) (first second : ℕ → List ℕ) → p ≡ params_of f
    → InterpolatesAt p f c 0 first → InterpolatesAt p f c 1 second
    → AreSystems f c (either first second)
both p f c first second is a b zero l = subst (λ q. InterpolatesAt q f c 0 first) is a
both p f c first second is a b (suc zero) l = subst (λ q. InterpolatesAt q f c 1 second) is b
both p f c first second is a b (suc (suc t)) l = absurd (omega arith)

joined : (a b c d e f : List ℕ)
    → ((((a ++ b) ++ c) ++ d) ++ e) ++ f ≡ a ++ (b ++ (c ++ (d ++ (e ++ f))))
joined a b c d e f = simp append_assoc

extended : (a b c d e f x1 x2 x3 x4 x5 s1 s2 s3 s4 s5 : List ℕ) → x1 ≡ b → x2 ≡ c → x3 ≡ d → x4 ≡ e
    → x5 ≡ f
    → s1 ≡ a ++ x1 → s2 ≡ s1 ++ x2 → s3 ≡ s2 ++ x3 → s4 ≡ s3 ++ x4 → s5 ≡ s4 ++ x5
    → s5 ≡ ((((a ++ b) ++ c) ++ d) ++ e) ++ f
extended a b c d e f x1 x2 x3 x4 x5 s1 s2 s3 s4 s5 eb ec ed ee ef e1 e2 e3 e4 e5 = cc

pub returns : goal.returns
returns g c =
    let p = c.args.params.now in
    let f = c.args.file.now in
    let challenges = c.args.challenges.now in
    let polynomials = c.args.polynomials.items in
    let first = c.in_ok-linear_0.ensures polynomials c.requires.codewords in
    let second = c.in_ok-linear_1.ensures polynomials c.requires.codewords in
    let proximity_0 = c.in_ok-proximity_0.proximity_0.items in
    let proximity_1 = c.in_ok-proximity_0.proximity_1.items in
    let linear_0 = c.in_ok-linear_0.linear_0.items in
    let linear_1 = c.in_ok-linear_1.linear_1.items in
    let product_0 = c.in_ok-product_0.product_0.items in
    let product_1 = c.in_ok-product_1.product_1.items in
    let product_is = c.in_ok-product_0.ensures polynomials c.requires.codewords in
    let product_too = c.in_ok-product_1.ensures polynomials c.requires.codewords in
    let all = extended proximity_0 linear_0 product_0 proximity_1 linear_1 product_1
    c.deref.result.now c.deref-2.result.now c.deref-3.result.now c.deref-4.result.now
    c.deref-5.result.now
    c.extend_from_slice.new.self.items c.extend_from_slice-2.new.self.items
    c.extend_from_slice-3.new.self.items
    c.extend_from_slice-4.new.self.items c.extend_from_slice-5.new.self.items
    c.deref.ensures.value c.deref-2.ensures.value c.deref-3.ensures.value c.deref-4.ensures.value
    c.deref-5.ensures.value
    c.in_ok-extend_from_slice.ensures.items c.in_ok-extend_from_slice-2.ensures.items
    c.in_ok-extend_from_slice-3.ensures.items
    c.in_ok-extend_from_slice-4.ensures.items c.in_ok-extend_from_slice-5.ensures.items in (
      either first.0 second.0,
      both p f challenges first.0 second.0 c.requires.file first.1 second.1,
      all ∙ joined proximity_0 linear_0 product_0 proximity_1 linear_1 product_1
          ∙ (λ i. c.in_ok-proximity_0.ensures.first i
          ++ (first.2 i ++ (product_is i ++ (c.in_ok-proximity_0.ensures.second i
          ++ (second.2 i ++ product_too i))))),
    )
