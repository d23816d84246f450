-- The mixture: rows 3 to 5, the model and its gradients.
pub mod MixtureCheck
pub mod Accepted
pub mod Mixture
