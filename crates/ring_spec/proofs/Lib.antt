mod Instances
