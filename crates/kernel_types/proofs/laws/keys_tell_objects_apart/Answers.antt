use Rattle.kernel_types.proofs.ToldByKeys.{addresses-told, routes-told, settings-told}
use Rattle.kernel_types.proofs.laws.keys_tell_objects_apart.Goals as goal

pub returns-clause-addresses : goal.returns-clause-addresses
returns-clause-addresses c = addresses-told

pub returns-clause-routes : goal.returns-clause-routes
returns-clause-routes c = routes-told

pub returns-clause-settings : goal.returns-clause-settings
returns-clause-settings c = settings-told
