-- A registry keeps the laws of stacks, of paths and of reloading.
use Rattle.std.specs.Prelude.{◌≡◌, ⊤}
use Rattle.span_store.specs.Store.{RegistryState}
use Rattle.span_registry.specs.Conducts.{no_conducts, StackPathLaws}
use Rattle.span_registry.specs.Form.{Terminal, Base}
use Rattle.span_registry.specs.Hooks.{StackLaws}
use Rattle.span_registry.specs.Reload.{ReloadLaws, unreloaded}
use Rattle.span_registry.specs.laws.Form.{kept_form, same_reloads}
use Rattle.span_registry.specs.laws.Position.{no_leaf_laws}

-- a registry keeps the law of stacks
pub registry_laws : StackLaws (λ (s w : RegistryState). w) (λ s. ⊤) (λ s f. f ≡ Terminal Base)
    (λ x p e lane v y w. w ≡ v) (λ x position h y. ⊤) (λ x y. y ≡ x)
registry_laws = record {
  keeps = λ x p e lane v y w f s h. (f, h, kept_form f);
  put_in_use = λ x y f s h. (f, h, kept_form f);
  form_with = λ x w f h. h;
  usable_with = λ x w h. tt;
  heard = no_leaf_laws;
  notified = λ x p e lane v y w position f s h. tt;
  hears_with = λ x w position. tt;
}

-- a registry keeps the law of the paths of a stack
pub registry_path_laws : StackPathLaws (λ (s w : RegistryState). w) (λ s f. f ≡ Terminal Base)
    (λ x p e lane v y w. w ≡ v) (λ x y. y ≡ x) no_conducts
registry_path_laws = record {
  plain = λ x position cs a. absurd a;
  now = λ x position cs f a h. absurd a;
  goes_on = λ x p e lane v y w position cs s a. absurd a;
  put_in_use = λ x y position cs s a. absurd a;
  acts_with = λ x w position cs a. absurd a;
}

-- a registry keeps the law of reloading, as it has no filter
pub registry_reloads : ReloadLaws (λ (s : RegistryState) f. f ≡ Terminal Base) unreloaded
    (λ x position h y. ⊤) no_conducts
registry_reloads = record {
  keeps = λ x n setting y f s h. (f, h, same_reloads n f);
  heard = λ x n setting y position s. tt;
  acts = λ x n setting y position cs s a. absurd a;
}
