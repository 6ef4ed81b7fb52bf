-- Names of files: folders and segments.
use Rattle.std.proofs.Common.{◌≡◌, ℕ, Bool, true, false, List, [], ◌∷◌, ◌++◌, refl, sym, ap, arith}
use Rattle.std.proofs.Common.{ne_eqb, map}
use Rattle.std.specs.Borrow.{Bor}
use Rattle.std.specs.Prelude.{◌||◌, fold}
use Rattle.std.specs.List.{list_any, join_with_byte}
use Rattle.std.proofs.lemmas.Bool.{or_right}
use Rattle.std.proofs.lemmas.List.{append-nil, map-append}
use Rattle.std.proofs.lemmas.List.Folds.{list_any-append}
use Rattle.cir_sources.specs.Names.{folder_of, is_slash, keep, keep_all, keep_folder}

or_false : (b : Bool) → (b || false) ≡ b
or_false b = grind arith

-- a name that ends with a slash is its own folder
pub folder_itself : (before : List ℕ) → folder_of (before ++ 47 ∷ []) ≡ before ++ 47 ∷ []
folder_itself [] = refl
folder_itself (c ∷ cs) =
    let any : list_any is_slash (c ∷ cs ++ 47 ∷ []) ≡ true =
    rw (list_any-append is_slash (c ∷ cs) (47 ∷ []))
    (or_right (list_any is_slash (c ∷ cs)) true refl) in
    rw (any, folder_itself cs)

-- another last byte is no part of the folder
pub folder_before : (before : List ℕ) (last : ℕ) → ¬ (last ≡ 47)
    → folder_of (before ++ last ∷ []) ≡ folder_of before
folder_before [] last other = rw (ne_eqb last 47 other)
folder_before (c ∷ cs) last other =
    rw (
      list_any-append is_slash (c ∷ cs) (last ∷ []),
      ne_eqb last 47 other,
      or_false,
      folder_before cs last other,
    )

-- the segments behind the first, each with a slash before it
abbrev pub further : List (List ℕ) → List ℕ
further [] = []
further (segment ∷ segments) = 47 ∷ (segment ++ further segments)

pub joined_further : (segment : List ℕ) (segments : List (List ℕ))
    → join_with_byte 47 (segment ∷ segments) ≡ segment ++ further segments
joined_further segment [] = sym (append-nil segment)
joined_further segment (next ∷ segments) =
    ap (λ t. segment ++ 47 ∷ t) (joined_further next segments)

pub all_kept : (kept : List (List ℕ)) (folders : List (List ℕ)) (file : List ℕ)
    → keep_all kept (folders ++ file ∷ []) ≡ keep (fold keep_folder kept folders) file
all_kept kept [] file = refl
all_kept kept (folder ∷ []) file = refl
all_kept kept (folder ∷ (next ∷ folders)) file =
    all_kept (keep_folder kept folder) (next ∷ folders) file

-- the same of lists that are read behind references
pub all_kept_now : (folders : List (Bor (List ℕ))) (file : Bor (List ℕ))
    → keep_all [] (map (λ s. s.now) (folders ++ file ∷ []))
    ≡ keep (fold keep_folder [] (map (λ s. s.now) folders)) file.now
all_kept_now folders file =
    rw (map-append (λ (s : Bor (List ℕ)). s.now) folders (file ∷ []))
    (all_kept [] (map (λ s. s.now) folders) file.now)
