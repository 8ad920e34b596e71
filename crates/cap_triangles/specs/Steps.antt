-- What the inner functions compute from the words of the room. Assumes nothing.
--   listed_in    a candidate there has the face's bit
--   bad_words    a triangle that 10 names, by its words and the face of the one before it
--   Standing    the corners of a triangle have their points there
--   area_of      twice the signed area of three points of a face
--   corners_in   the three points that candidates have there
--   turned_by    a triangle turned outward
use Rattle.std.specs.Prelude.{ℕ, ◌+◌, ◌<◌, Bool, cond, not, ◌&&◌, ◌||◌, List, eqb, ltb, Float, length, get_or}
use Rattle.std.specs.Bool.{beq}
use Rattle.std.specs.Float.Ieee.{lt}
use Rattle.root.specs.Doubles.{◌⊖◌, ◌⊗◌, zero_f}
use Rattle.geometry.specs.Triangles.{Triangle, mapped, reversed}
use Rattle.box_faces.specs.declared.uv.Uv.{Uv}
use Rattle.box_faces.specs.Faces.{project, has_bit, ccw_is_outward}
use Rattle.candidate_pool.specs.Offsets.{entry_at}
use Rattle.candidate_pool.specs.Standing.{count_at, point_at, PointStored}

unfoldable pub listed_in : List ℕ → ℕ → ℕ → Bool
listed_in w f c = ltb c (count_at w) && has_bit (get_or w (entry_at c + 4) 0) f

unfoldable pub bad_words : List ℕ → ℕ → ℕ → ℕ → ℕ → ℕ → Bool
bad_words w last f a b c = ltb 5 f || (ltb f last || ((eqb a b || (eqb b c || eqb c a)) || not (listed_in w f a && (listed_in w f b && listed_in w f c))))

pub record Standing (w : List ℕ) (t : Triangle ℕ) : Type 0 where
  pub a : PointStored w (entry_at t.a)
  pub b : PointStored w (entry_at t.b)
  pub c : PointStored w (entry_at t.c)
  pub a_low : entry_at t.a + 2 < length w
  pub b_low : entry_at t.b + 2 < length w
  pub c_low : entry_at t.c + 2 < length w

unfoldable pub area_of : Triangle Uv → Float
area_of q = (q.b.u ⊖ q.a.u) ⊗ (q.c.v ⊖ q.a.v) ⊖ (q.b.v ⊖ q.a.v) ⊗ (q.c.u ⊖ q.a.u)

abbrev pub corners_in : List ℕ → ℕ → Triangle ℕ → Triangle Uv
corners_in w f t = mapped (λ c. project f (point_at w (entry_at c))) t

unfoldable pub turned_by : List ℕ → ℕ → Triangle ℕ → Triangle ℕ
turned_by w f t = cond (beq (lt zero_f (area_of (corners_in w f t))) (ccw_is_outward f)) t (reversed t)
