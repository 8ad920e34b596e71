-- Candidates and their insertion (document 01, module 5; `insert_candidate` of boundary_closure.rs). Assumes nothing.
--   Candidate     a point, "mesh vertex + 1 or 0", its faces. What is inserted has the same form
--   by_key         "One key, one candidate": the joining rule of candidates, which finds the first with the key
--   Pool          the candidates so far, and the list of each face       point_of   the point of candidate c
--   place_for      the place of the candidate that an inserted one becomes part of, or none
--   number_for     that place, or the number that it gets as a new one
--   renewed       a candidate after another was inserted with its key
--   listed        `push_unique`: the face lists after candidate c was added to some faces
--   insert        `insert_candidate`: the candidate found is renewed, else the new one stands behind all
use Rattle.std.specs.Prelude.{ℕ, cond, ◌||◌, List, [], ◌∷◌, ◌++◌, map, eqb, get_or, set, length, Float}
use Rattle.std.specs.Prelude.{Option, None, Some, unwrap_or}
use Rattle.lists.specs.Lists.{first, keep, has, up_to}
use Rattle.geometry.specs.declared.point.Point.{Point}
use Rattle.geometry.specs.Points.{origin}
use Rattle.geometry.specs.Boxes.{faces}
use Rattle.geometry.specs.Meshes.{vertex}
use Rattle.mesh_weld.specs.Joining.{Joining}
use Rattle.mesh_weld.specs.Cells.{key_of, same_key}

pub record Candidate : Type 0 where
  pub point : Point
  pub mesh : ℕ
  pub on : List ℕ

abbrev pub no_candidate : Candidate
no_candidate = record { point = origin; mesh = 0; on = [] }

unfoldable pub by_key : Float → Joining Point
by_key eps =
    record {
      joins = λ p q. same_key (key_of eps p) (key_of eps q);
      find = λ p l. first (λ k. same_key (key_of eps (vertex l k)) (key_of eps p)) (up_to (length l));
    }

pub record Pool : Type 0 where
  pub all : List Candidate
  pub lists : List (List ℕ)

abbrev pub no_pool : Pool
no_pool = record { all = []; lists = map (λ f. []) faces }

abbrev pub point_of : Pool → ℕ → Point
point_of p c = (get_or p.all c no_candidate).point

abbrev pub face_list : Pool → ℕ → List ℕ
face_list p f = get_or p.lists f []

-- "a later mesh vertex replaces number and point, faces add up"
unfoldable pub renewed : Candidate → Candidate → Candidate
renewed c e =
    record {
      point = cond (eqb e.mesh 0) c.point e.point;
      mesh = cond (eqb e.mesh 0) c.mesh e.mesh;
      on = keep (λ f. has c.on f || has e.on f) faces;
    }

-- the candidate at the place found is renewed; where none was found, e stands behind all
abbrev pub entered_as : List Candidate → Candidate → Option ℕ → List Candidate
entered_as l e (Some i) = set l i (renewed (get_or l i no_candidate) e)
entered_as l e None = l ++ (e ∷ [])

abbrev pub added : List ℕ → ℕ → List ℕ
added l c = cond (has l c) l (l ++ (c ∷ []))

-- a face's list is in the order in which the face was first added to its candidates
unfoldable pub listed : List (List ℕ) → List ℕ → ℕ → List (List ℕ)
listed lists on c = map (λ f. let l = get_or lists f [] in cond (has on f) (added l c) l) faces

module _ (J : Joining Point) where
  abbrev pub place_for : Pool → Candidate → Option ℕ
  place_for p e = J.find e.point (map (λ c. c.point) p.all)

  unfoldable pub number_for : Pool → Candidate → ℕ
  number_for p e = unwrap_or (place_for p e) (length p.all)

  unfoldable pub insert : Pool → Candidate → Pool
  insert p e = record { all = entered_as p.all e (place_for p e); lists = listed p.lists e.on (number_for p e) }
