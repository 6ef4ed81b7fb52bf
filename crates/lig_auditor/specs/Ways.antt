-- The first way on which opened columns don't lead to the root.
use Rattle.std.specs.Prelude.{◌≡◌, ℕ, ◌<◌, List, length, Option, Some, None}
use Rattle.lig_layout.specs.declared.params.Params.{Params}
use Rattle.lig_merkle.specs.Shared.{AreOpened, shared_count}
use Rattle.lig_proof.specs.declared.shared_proof.AnyProof.{AnyProof}
use Rattle.lig_proof.specs.declared.shared_proof.AnyProof.TheVariants.{First, Second}
use Rattle.lig_proof.specs.ProofBytes.{opened_count}
use Rattle.lig_proof.specs.Acceptance.{ways_in, Leads}

-- as many indices, and as many paths or nodes, as the columns need
abbrev pub HasWays : Params → List ℕ → AnyProof → Type 0
HasWays p indices (First proof) = (length indices ≡ length proof.columns)
    × (length proof.paths ≡ length proof.columns) × (length proof.columns ≡ opened_count)
HasWays p indices (Second proof) = (length indices ≡ length proof.columns)
    × (length proof.nodes ≡ shared_count p.depth indices) × AreOpened p.depth indices

abbrev pub IsFirstAstray : Params → List ℕ → AnyProof → Option ℕ → Type 0
IsFirstAstray p indices proof (Some opened) = (opened < ways_in proof)
    × ((q : ℕ) → q < opened → Leads p indices proof q) × (¬ Leads p indices proof opened)
IsFirstAstray p indices proof None = (q : ℕ) → q < ways_in proof → Leads p indices proof q
