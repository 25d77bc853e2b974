-- The constants of the code are the limits that the definitions state.
use Rattle.std.proofs.Common.{◌≡◌, refl}
use Rattle.pisdf_model.specs.declared.limits.TheConstants.{MAX_GRAPHS, MAX_PARAMS, MAX_INPUTS, MAX_OUTPUTS, MAX_ACTORS, MAX_FIFOS, MAX_EXPORTS, MAX_DELAY_TOKENS, MAX_HOLD, MAX_NESTING}
use Rattle.pisdf_model.specs.Count.{graphs_limit, params_limit, inputs_limit, outputs_limit, actors_limit, fifos_limit, exports_limit, delay_limit}
use Rattle.pisdf_model.specs.Hold.{hold_limit}
use Rattle.pisdf_model.specs.Nesting.{nesting_limit}

graphs_stated : MAX_GRAPHS ≡ graphs_limit
graphs_stated = refl

params_stated : MAX_PARAMS ≡ params_limit
params_stated = refl

inputs_stated : MAX_INPUTS ≡ inputs_limit
inputs_stated = refl

outputs_stated : MAX_OUTPUTS ≡ outputs_limit
outputs_stated = refl

actors_stated : MAX_ACTORS ≡ actors_limit
actors_stated = refl

fifos_stated : MAX_FIFOS ≡ fifos_limit
fifos_stated = refl

exports_stated : MAX_EXPORTS ≡ exports_limit
exports_stated = refl

delay_stated : MAX_DELAY_TOKENS ≡ delay_limit
delay_stated = refl

hold_stated : MAX_HOLD ≡ hold_limit
hold_stated = refl

nesting_stated : MAX_NESTING ≡ nesting_limit
nesting_stated = refl
