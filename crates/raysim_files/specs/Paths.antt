-- The folder of a path, and the name in it.
use Rattle.std.specs.Prelude.{◌≡◌, ◌≢◌, ◌<◌, ◌⊎◌, ℕ, List, [], ◌∷◌, ◌++◌, length, codes, slice_index}

abbrev pub HasNoSlash : List ℕ → Type 0
HasNoSlash text = (i : ℕ) → i < length text → slice_index text i ≢ 47

-- what stands before the last slash of a path is its folder; where nothing does, that is the root
abbrev pub folder_before : List ℕ → List ℕ
folder_before [] = codes "/"
folder_before (b ∷ front) = b ∷ front

-- the path is such a name, in the folder that one is in
abbrev pub IsBareName : List ℕ → List ℕ → List ℕ → Type 0
IsBareName path folder name = HasNoSlash path × (folder ≡ codes ".") × (name ≡ path)

-- the path has such a folder before its last slash, and such a name behind it
pub record IsBehindSlash (path folder name : List ℕ) : Type 0 where
  pub front : List ℕ
  pub written : path ≡ front ++ 47 ∷ name
  pub is_last : HasNoSlash name
  pub is_folder : folder ≡ folder_before front

abbrev pub IsSplit : List ℕ → List ℕ → List ℕ → Type 0
IsSplit path folder name = IsBareName path folder name ⊎ IsBehindSlash path folder name
