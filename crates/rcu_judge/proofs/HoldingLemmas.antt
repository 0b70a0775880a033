-- Lemmas on what sections got.
use Rattle.rcu_judge.proofs.Cited.{arith, ◌≡◌, ◌≢◌, ◌⊎◌, ◌↔◌, Bool, true, false, ◌||◌, not, cond, Some, None, IsTrue, list_any, HashMap, get, SectionId, ObjectId, same_section, same_object, section_tells, object_tells}
use Rattle.rcu_judge.specs.declared.holdings.Got.{Got}
use Rattle.rcu_judge.specs.Holdings.{objects_in}

pub not_apart : (x y : ObjectId) → false ≡ not (same_object x y) → x ≡ y
not_apart x y e = grind (arith, object_tells)

-- the newest object is another, and the one before it among the older ones
pub newest_moves : (o n p : ObjectId) (older now : Bool) → now ≡ cond (same_object n p) true older → (same_object p o || now) ≡ cond (same_object o p) true (same_object p n || older)
newest_moves o n p older now e = grind (arith, object_tells)

-- the newest object is got again
pub newest_again : (o n p : ObjectId) (older : Bool) → n ≡ o → (same_object p n || older) ≡ cond (same_object o p) true (same_object p n || older)
newest_again o n p older e = grind (arith, object_tells)

-- the first object is got
pub newest_alone : (o p : ObjectId) → (same_object p o || false) ≡ cond (same_object o p) true false
newest_alone o p = grind (arith, object_tells)

-- the table n is m, set at one section
module _ {T : Type 0} (m n : HashMap SectionId Got T) (s : SectionId) where
  pub gets : (o : ObjectId) (objects : Got) →
      ((q : SectionId) → get same_section n q ≡ cond (same_section s q) (Some objects) (get same_section m q)) →
      ((p : ObjectId) → list_any (same_object p) (objects_in (Some objects)) ≡ cond (same_object o p) true (list_any (same_object p) (objects_in (get same_section m s)))) →
      (t : SectionId) (p : ObjectId) → IsTrue (list_any (same_object p) (objects_in (get same_section n t))) ↔ (IsTrue (list_any (same_object p) (objects_in (get same_section m t))) ⊎ ((s ≡ t) × (o ≡ p)))
  gets o objects puts more t p = grind (arith, section_tells, object_tells)

  -- what a section got stays
  pub stays : (before after : Got) → get same_section m s ≡ Some before → (after.newest ≡ before.newest) × (after.older.keys ≡ before.older.keys) →
      ((q : SectionId) → get same_section n q ≡ cond (same_section s q) (Some after) (get same_section m q)) →
      (t : SectionId) (p : ObjectId) → IsTrue (list_any (same_object p) (objects_in (get same_section n t))) ↔ IsTrue (list_any (same_object p) (objects_in (get same_section m t)))
  stays before after was same puts t p = grind (arith, section_tells)

  pub forgets : ((q : SectionId) → get same_section n q ≡ cond (same_section s q) None (get same_section m q)) →
      (t : SectionId) (p : ObjectId) → IsTrue (list_any (same_object p) (objects_in (get same_section n t))) ↔ (IsTrue (list_any (same_object p) (objects_in (get same_section m t))) × (s ≢ t))
  forgets puts t p = grind (arith, section_tells)
