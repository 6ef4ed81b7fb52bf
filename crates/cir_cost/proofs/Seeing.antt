-- A world in which nothing that was made stays.
use Rattle.std.proofs.Common.{◌≡◌, ◌∙◌, ℕ, List, [], take, length, ap, sym, refl}
use Rattle.std.specs.Prelude.{map}
use Rattle.std.proofs.Math.Seq.{take-length}
use Rattle.std.proofs.lemmas.List.{length-map}
use Rattle.cir_meaning.specs.Source.{Equation}
use Rattle.cir_meaning.specs.Frame as F
use Rattle.cir_frame.specs.declared.frame.Frame.{Frame}
use Rattle.cir_frame.specs.declared.world.World.{World}
use Rattle.cir_frame.specs.Shown.{row_of, sizes_of, state_of, world_of}
use Rattle.cir_evaluate.specs.Within.{kept_of}

-- what was made before is there again
pub record Back (old new : World) : Type 0 where
  pub rows : map row_of new.rows.items ≡ map row_of old.rows.items
  pub sizes : sizes_of new.sizes ≡ sizes_of old.sizes
  pub instances : new.instances.items ≡ old.instances.items
  pub constraints : new.constraints.items ≡ old.constraints.items

all_of : {X : Type 0} (n : ℕ) (xs ys : List X) → n ≡ length ys → xs ≡ ys → take n xs ≡ ys
all_of n xs ys h e = rw (h, e) (take-length ys)

pub taken_back : (old mid new : World) (rows instances constraints : ℕ) (sizes : F.Sizes)
    → rows ≡ length old.rows.items → constraints ≡ length old.constraints.items
    → instances ≡ length old.instances.items → sizes ≡ sizes_of old.sizes
    → kept_of mid ≡ kept_of old
    → ((es : List Equation) → world_of new es ≡ record (world_of mid es) {
      rows = take rows (map row_of mid.rows.items);
      sizes = sizes;
      instances = take instances mid.instances.items;
    })
    → new.constraints.items ≡ take constraints mid.constraints.items → Back old new
taken_back old mid new rows instances constraints sizes r c i s kept world lines = record {
  rows =
      ap (λ w. w.rows) (world [])
      ∙ all_of rows _ _ (r ∙ sym (length-map old.rows.items row_of)) (ap (λ k. k.world.rows) kept);
  sizes = ap (λ w. w.sizes) (world []) ∙ s;
  instances =
      ap (λ w. w.instances) (world [])
      ∙ all_of instances _ _ i (ap (λ k. k.world.instances) kept);
  constraints = lines ∙ all_of constraints _ _ c (ap (λ k. k.constraints) kept);
}

pub back_state : (old new : World) (f : Frame) (qs : List Equation) → Back old new
    → state_of f (record new { counts = old.counts; added = old.added }) qs ≡ state_of f old qs
back_state old new f qs b = rw (b.rows, b.sizes, b.instances) refl

pub back_kept : (old new : World) → Back old new
    → kept_of (record new { counts = old.counts; added = old.added }) ≡ kept_of old
back_kept old new b = rw (b.rows, b.sizes, b.instances, b.constraints) refl
