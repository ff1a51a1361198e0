use Rattle.std.proofs.Common.{Some, None, ◌∙◌, ap, length, option_map, subst, sym, if◌then◌else◌}
use Rattle.std.specs.Map.Iter.{deref_pair}
use Rattle.page_cache.specs.Resident.{AreResident, dirty_end}
use Rattle.page_cache.proofs.Held.{as-resident, dirty-at, whole-last}
use Rattle.page_cache.proofs.resident_pages.ResidentPages.dirty_last.Goals as goal
use Rattle.page_cache.proofs.resident_pages.ResidentPages.dirty_last.Goals.{in_default-via-in-Some+else-last, in_default-via-in_default}

pub returns-in-Some : goal.returns-in-Some
returns-in-Some c =
    let last = sym c.peek_lru.ensures ∙ ap (option_map deref_pair) c.in-Some.is in
    let page = c.in-Some.page.now in
    record {
      some = ap (λ items. Some (page, items)) c.as_slice.ensures.value
          ∙ sym (ap (λ t. if t then Some (page, c.in-Some.last.now.bytes.items) else None) c.if-last.true)
          ∙ sym (dirty-at c.self.inside.pages.entries _ last) ∙ ap dirty_end c.self.view_is;
      none = tt;
      whole = ap length c.as_slice.ensures.value ∙ whole-last c.self.inside.pages.entries _ last c.self.invariant.whole;
      sound = subst AreResident c.self.view_is (as-resident c.self.inside.pages c.self.invariant);
    }

pub returns-in_default : goal.returns-in_default
returns-in_default c = elim c.in_default.branch [
  | in_default-via-in-Some+else-last w ↦
      let last = sym c.peek_lru.ensures ∙ ap (option_map deref_pair) w.in-Some.is in
      record {
        none = sym (ap (λ t. if t then Some (w.in-Some.page.now, w.in-Some.last.now.bytes.items) else None) w.if-last.false)
            ∙ sym (dirty-at c.self.inside.pages.entries _ last) ∙ ap dirty_end c.self.view_is;
        some = tt;
        whole = tt;
        sound = subst AreResident c.self.view_is (as-resident c.self.inside.pages c.self.invariant);
      }
  | in_default-via-in_default w ↦
      let last = sym c.peek_lru.ensures ∙ ap (option_map deref_pair) w.in_default.is in
      record {
        none = sym (dirty-at c.self.inside.pages.entries _ last) ∙ ap dirty_end c.self.view_is;
        some = tt;
        whole = tt;
        sound = subst AreResident c.self.view_is (as-resident c.self.inside.pages c.self.invariant);
      }
]
