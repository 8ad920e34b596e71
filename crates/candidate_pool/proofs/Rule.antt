-- "One key, one candidate" is a lawful joining rule: it is symmetric, what is found joins, and where nothing is found none joins. Assumes nothing.
--   key_symmetric   two keys are one either way
--   key_lawful      the rule's laws
use mathlib.Core.Path.{◌≡◌, ap, ◌∙◌}
use mathlib.Core.Bool.{◌&&◌}
use lib.ListN.{get_or}
use lib.Ieee.{Float}
use Rattle.lists.proofs.Bools.{is_true, is_false}
use Rattle.geometry.specs.declared.point.Point.{Point}
use Rattle.geometry.specs.Points.{origin}
use Rattle.chains.proofs.Firsts.{places_link, link_found, link_absent}
use Rattle.chains.specs.Links.{link_of}
use Rattle.mesh_weld.specs.Joining.{Lawful}
use Rattle.mesh_weld.specs.Cells.{Key, key_of, same_key}
use Rattle.mesh_weld.proofs.Rule.{same_sym}
use Rattle.candidate_pool.specs.Pool.{by_key}

pub key_symmetric : (a b : Key) → same_key a b ≡ same_key b a
unfolding same_key
key_symmetric a b = λ i. same_sym a.x b.x i && (same_sym a.y b.y i && same_sym a.z b.z i)

pub key_lawful : (eps : Float) → Lawful Point (by_key eps)
unfolding by_key
key_lawful eps =
    record {
      symmetric = λ p q. key_symmetric (key_of eps p) (key_of eps q);
      found = λ p l k e.
          let f = link_found (λ q. same_key (key_of eps q) (key_of eps p)) p l k (places_link (λ q. same_key (key_of eps q) (key_of eps p)) origin l ∙ ap link_of e) in
          (f.0, key_symmetric (key_of eps p) (key_of eps (get_or l k p)) ∙ f.1);
      none = λ p l e k h.
          key_symmetric (key_of eps p) (key_of eps (get_or l k p))
          ∙ is_false (same_key (key_of eps (get_or l k p)) (key_of eps p))
          (λ t. link_absent (λ q. same_key (key_of eps q) (key_of eps p)) p l (places_link (λ q. same_key (key_of eps q) (key_of eps p)) origin l ∙ ap link_of e) k h
          (is_true (same_key (key_of eps (get_or l k p)) (key_of eps p)) t));
    }
